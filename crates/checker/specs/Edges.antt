-- Checking at both sides of the lengths stated for its buffers, each of its codes with the whole answer, and the further worked books, with literal
-- numbers. Assumes nothing: these are definitions.
use Rattle.std.specs.Prelude.{◌≡◌, List, [], ◌∷◌, ◌++◌, ℕ, take}
use Rattle.reversal.specs.Twelve.{item_q3, item_q4}
use Rattle.reversal.specs.Slips.{one_stuck}
use Rattle.book.specs.Book.{bytes_of}
use Rattle.book.specs.Lent.{Lent}
use Rattle.book.specs.Example.{move, bytes_q, many, with_move, after_device}
use Rattle.book.specs.Further.{bytes_p, bytes_phi, bytes_psi, bytes_tie, bytes_long}
use Rattle.reader.specs.Edges.{Stated, OneShorter, UnevenRead}
use Rattle.checker.specs.declared.Checking.{Checking}
use Rattle.checker.specs.Checks.{Checks}
use Rattle.checker.specs.Cases.{recorded}

-- in buffers of exactly the stated lengths, checking these bytes answers this
pub record ChecksTo (book : List ℕ) (answer : Checking) : Type 0 where
  pub result : {l : Lent} {r : Checking} {l' : Lent} → Checks book l r l' → Stated l → r ≡ answer

-- and leaves all untouched
pub record RefusedWith (book : List ℕ) (answer : Checking) : Type 0 where
  pub result : {l : Lent} {r : Checking} {l' : Lent} → Checks book l r l' → Stated l → (r ≡ answer) × (l' ≡ l)

pub record Edges : Type 0 where
  -- "0, 0: done"
  pub good : ChecksTo bytes_q (record { code = 0; place = 0; n = 3; m = 3; items = 5; units = 27 })
  -- n 2, m 3: 1 × (1 + 1) and 1 × (8 + 8) units
  pub uneven : ChecksTo bytes_p (record { code = 0; place = 0; n = 2; m = 3; items = 2; units = 18 })
  pub uneven_read : {l : Lent} {r : Checking} {l' : Lent} → Checks bytes_p l r l' → Stated l → UnevenRead l l'
  -- the books of the cases that the twelve can't tell, and of the longest plan
  pub phi : ChecksTo bytes_phi (record { code = 0; place = 0; n = 3; m = 3; items = 1; units = 2 })
  pub psi : ChecksTo bytes_psi (record { code = 0; place = 0; n = 3; m = 3; items = 1; units = 2 })
  pub tie : ChecksTo bytes_tie (record { code = 0; place = 0; n = 3; m = 3; items = 3; units = 16 })
  pub long : ChecksTo bytes_long (record { code = 0; place = 0; n = 3; m = 3; items = 1; units = 9 })
  -- "8": 02: "the first reverse command that some state can't carry out", where another state of the set can: 18 units, the forward command, and that one
  pub eight : ChecksTo (bytes_q ++ recorded item_q3) (record { code = 8; place = 225; n = 0; m = 0; items = 0; units = 29 })
  pub stuck_at_one : ChecksTo (bytes_p ++ recorded one_stuck) (record { code = 8; place = 148; n = 0; m = 0; items = 0; units = 20 })
  pub twelve : ChecksTo (bytes_q ++ recorded item_q4) (record { code = 12; place = 225; n = 0; m = 0; items = 0; units = 33 })
  -- "1, 0: a lent buffer shorter than stated; all untouched", whatever the book
  pub one : {book : List ℕ} {l : Lent} {r : Checking} {l' : Lent} → Checks book l r l' → OneShorter l
      → (r ≡ record { code = 1; place = 0; n = 0; m = 0; items = 0; units = 0 }) × (l' ≡ l)
  -- what reading refuses: 02, of the units: "0 on any other refusal"
  pub two : RefusedWith (take 224 bytes_q) (record { code = 2; place = 201; n = 0; m = 0; items = 0; units = 0 })
  pub three : RefusedWith (bytes_q ++ 0 ∷ 0 ∷ 4 ∷ 0 ∷ []) (record { code = 3; place = 225; n = 0; m = 0; items = 0; units = 0 })
  pub four : RefusedWith (bytes_q ++ 1 ∷ 0 ∷ 3 ∷ 0 ∷ 9 ∷ []) (record { code = 4; place = 225; n = 0; m = 0; items = 0; units = 0 })
  pub five : RefusedWith (bytes_q ++ 2 ∷ 0 ∷ 3 ∷ 0 ∷ 1 ∷ 9 ∷ []) (record { code = 5; place = 225; n = 0; m = 0; items = 0; units = 0 })
  pub six : RefusedWith (with_move (move 0 2 6)) (record { code = 6; place = 48; n = 0; m = 0; items = 0; units = 0 })
  pub seven : RefusedWith (bytes_of many ++ 0 ∷ 0 ∷ 3 ∷ 0 ∷ []) (record { code = 7; place = 1478; n = 0; m = 0; items = 0; units = 0 })
  pub thirteen : RefusedWith (after_device (6 ∷ 0 ∷ 5 ∷ 0 ∷ 1 ∷ 0 ∷ 1 ∷ 0 ∷ 1 ∷ 0 ∷ [])) (record { code = 13; place = 6; n = 0; m = 0; items = 0; units = 0 })
