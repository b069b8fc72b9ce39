-- Reading at both sides of the lengths stated for its buffers, each of its codes with the whole answer, and a book with 2 states and 3 commands, with
-- literal numbers. Assumes nothing: these are definitions.
use Rattle.std.specs.Prelude.{◌≡◌, List, [], ◌∷◌, ◌++◌, ℕ, ◌≤◌, length, get_or, take}
use Rattle.book.specs.Lent.{Lent}
use Rattle.book.specs.Book.{bytes_of}
use Rattle.book.specs.Example.{move, bytes_q, many, with_move, after_device}
use Rattle.book.specs.Further.{bytes_p, slots_p}
use Rattle.reader.specs.declared.Reading.{Reading}
use Rattle.reader.specs.Reads.{Reads}

-- "a table (2,048 entries of 64 bits ..) and slots (64 of 34 bytes ..)"; 02: "32 weights": of exactly the stated lengths
pub record Stated (l : Lent) : Type 0 where
  pub table : length l.table ≡ 2048
  pub slots : length l.slots ≡ 2176
  pub weights : length l.weights ≡ 32

-- one of them is one shorter
pub data OneShorter (l : Lent) : Type 0 where
  table_2047 : length l.table ≡ 2047 → OneShorter l
  slots_2175 : length l.slots ≡ 2175 → OneShorter l
  weights_31 : length l.weights ≡ 31 → OneShorter l

-- in buffers of exactly the stated lengths, reading these bytes answers this
pub record ReadsTo (book : List ℕ) (answer : Reading) : Type 0 where
  pub result : {l : Lent} {r : Reading} {l' : Lent} → Reads book l r l' → Stated l → r ≡ answer

-- and leaves all untouched
pub record RefusedWith (book : List ℕ) (answer : Reading) : Type 0 where
  pub result : {l : Lent} {r : Reading} {l' : Lent} → Reads book l r l' → Stated l → (r ≡ answer) × (l' ≡ l)

-- what stands in the buffers after reading the book with 2 states and 3 commands: its 6 entries, its slots and its 3 weights
pub record UnevenRead (l l' : Lent) : Type 0 where
  pub state_0 : (get_or l'.table 0 0 ≡ 1) × (get_or l'.table 1 0 ≡ 2) × (get_or l'.table 2 0 ≡ 3)
  pub state_1 : (get_or l'.table 3 0 ≡ 1) × (get_or l'.table 4 0 ≡ 2) × (get_or l'.table 5 0 ≡ 0)
  pub entries_kept : (i : ℕ) → 6 ≤ i → get_or l'.table i 0 ≡ get_or l.table i 0
  pub slots : take 68 l'.slots ≡ slots_p
  pub slots_kept : (i : ℕ) → 68 ≤ i → get_or l'.slots i 0 ≡ get_or l.slots i 0
  pub weights : take 3 l'.weights ≡ 1000 ∷ 1 ∷ 2 ∷ []
  pub weights_kept : (i : ℕ) → 3 ≤ i → get_or l'.weights i 0 ≡ get_or l.weights i 0

pub record Edges : Type 0 where
  -- "0, 0: done"
  pub good : ReadsTo bytes_q (record { code = 0; place = 0; n = 3; m = 3; items = 5 })
  pub uneven : ReadsTo bytes_p (record { code = 0; place = 0; n = 2; m = 3; items = 2 })
  pub uneven_read : {l : Lent} {r : Reading} {l' : Lent} → Reads bytes_p l r l' → Stated l → UnevenRead l l'
  -- "1, 0: a lent buffer shorter than stated; all untouched", whatever the book
  pub one : {book : List ℕ} {l : Lent} {r : Reading} {l' : Lent} → Reads book l r l' → OneShorter l
      → (r ≡ record { code = 1; place = 0; n = 0; m = 0; items = 0 }) × (l' ≡ l)
  -- "each 0 on a refusal": books of book/specs/Example
  pub two : RefusedWith (take 224 bytes_q) (record { code = 2; place = 201; n = 0; m = 0; items = 0 })
  pub three : RefusedWith (bytes_q ++ 0 ∷ 0 ∷ 4 ∷ 0 ∷ []) (record { code = 3; place = 225; n = 0; m = 0; items = 0 })
  pub four : RefusedWith (bytes_q ++ 1 ∷ 0 ∷ 3 ∷ 0 ∷ 9 ∷ []) (record { code = 4; place = 225; n = 0; m = 0; items = 0 })
  pub five : RefusedWith (bytes_q ++ 2 ∷ 0 ∷ 3 ∷ 0 ∷ 1 ∷ 9 ∷ []) (record { code = 5; place = 225; n = 0; m = 0; items = 0 })
  pub six : RefusedWith (with_move (move 0 2 6)) (record { code = 6; place = 48; n = 0; m = 0; items = 0 })
  pub seven : RefusedWith (bytes_of many ++ 0 ∷ 0 ∷ 3 ∷ 0 ∷ []) (record { code = 7; place = 1478; n = 0; m = 0; items = 0 })
  pub thirteen : RefusedWith (after_device (6 ∷ 0 ∷ 5 ∷ 0 ∷ 1 ∷ 0 ∷ 1 ∷ 0 ∷ 1 ∷ 0 ∷ [])) (record { code = 13; place = 6; n = 0; m = 0; items = 0 })
