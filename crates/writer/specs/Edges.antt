-- Writing at both sides of the limits, each of its codes with the whole answer, and the book with 2 states and 3 commands written, with literal numbers.
-- Assumes nothing: these are definitions.
use Rattle.std.specs.Prelude.{◌≡◌, List, [], ◌∷◌, ◌++◌, ℕ, take}
use Rattle.base.specs.Lists.{Written}
use Rattle.book.specs.Lent.{Lent, lent}
use Rattle.book.specs.Example.{first_slots}
use Rattle.book.specs.Further.{bytes_p, table_p, slots_p}
use Rattle.writer.specs.declared.Writing.{Writing}
use Rattle.writer.specs.Writes.{Writes}
use Rattle.writer.specs.Cases.{zeros, fine}

-- "It refuses, output untouched, length 0": the output has exactly the stated length and holds zeros
pub record RefusedWith (n m items : ℕ) (l : Lent) (answer : Writing) : Type 0 where
  pub result : {r : Writing} {out' : List ℕ} → Writes n m items l (zeros 31178) r out' → (r ≡ answer) × (out' ≡ zeros 31178)

-- "it gives the book and its length. Bytes past it stay."
pub record WritesTo (n m items : ℕ) (l : Lent) (answer : Writing) (book : List ℕ) : Type 0 where
  pub result : {r : Writing} {out' : List ℕ} → Writes n m items l (zeros 31178) r out' → (r ≡ answer) × Written book (zeros 31178) out'

pub record Edges : Type 0 where
  -- "0, 0: done": the book with n 2, m 3; and the least of all, n 1, m 1
  pub uneven : WritesTo 2 3 2 (lent (table_p ++ zeros 2042) (slots_p ++ zeros 2108) (1000 ∷ 1 ∷ 2 ∷ zeros 29))
      (record { code = 0; place = 0; length = 148 }) bytes_p
  pub least : WritesTo 1 1 0 (lent (zeros 2048) (zeros 2176) (1 ∷ zeros 31)) (record { code = 0; place = 0; length = 6 })
      (2 ∷ 0 ∷ 1 ∷ 0 ∷ 1 ∷ 1 ∷ [])
  -- n 64, m 32 and 64 items are let through: weight 1 is the first that is wrong
  pub most : RefusedWith 64 32 64 (lent (zeros 2048) (zeros 2176) (1 ∷ zeros 31)) (record { code = 5; place = 1; length = 0 })
  -- one beyond: the same with 65, 33 and 65; the lengths stand in Spoilt, each one below
  pub states_65 : RefusedWith 65 32 64 (lent (zeros 2048) (zeros 2176) (1 ∷ zeros 31)) (record { code = 5; place = 0; length = 0 })
  pub commands_33 : RefusedWith 64 33 64 (lent (zeros 2048) (zeros 2176) (1 ∷ zeros 31)) (record { code = 5; place = 0; length = 0 })
  pub items_65 : RefusedWith 64 32 65 (lent (zeros 2048) (zeros 2176) (1 ∷ zeros 31)) (record { code = 7; place = 0; length = 0 })
  -- "1"
  pub one : RefusedWith 0 3 65 (lent (zeros 2047) (zeros 2176) fine) (record { code = 1; place = 0; length = 0 })
  -- "5 at the lowest index of an entry with a bit at n or above": entry 2
  pub entry : RefusedWith 3 3 1 (lent (0 ∷ 0 ∷ 8 ∷ 8 ∷ zeros 2044) (zeros 2176) fine) (record { code = 5; place = 2; length = 0 })
  -- "5 at the lowest slot whose fields break an item's limits": slot 1; k 9; r 9
  pub slot : RefusedWith 3 3 3 (lent (zeros 2048) (take 34 first_slots ++ zeros 2142) fine) (record { code = 5; place = 1; length = 0 })
  pub slot_k_9 : RefusedWith 3 3 2 (lent (zeros 2048) (take 34 first_slots ++ 9 ∷ 0 ∷ zeros 2140) fine) (record { code = 5; place = 1; length = 0 })
  pub slot_r_9 : RefusedWith 3 3 2 (lent (zeros 2048) (take 34 first_slots ++ 1 ∷ 9 ∷ zeros 2140) fine) (record { code = 5; place = 1; length = 0 })
