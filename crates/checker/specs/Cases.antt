-- Q's book checked, as bytes, with literal numbers: accepted; with the item of Q2 in place of item 1; with the items of Q3 and Q4, and others, behind
-- its items; and its device with weights, whose items stand 10 bytes further on. The same with a table as the only buffer, on a device of 4 states and 1
-- command too.
-- Assumes nothing: these are definitions.
use Rattle.std.specs.Prelude.{◌≡◌, List, [], ◌∷◌, ◌++◌, ℕ, ◌≤◌, length, get_or, take, drop}
use Rattle.base.specs.Sizes.{LongEnough}
use Rattle.reversal.specs.Reversal.{Item}
use Rattle.reversal.specs.Twelve.{made, item_q2, item_q3, item_q4}
use Rattle.book.specs.Book.{frame, item_rec}
use Rattle.book.specs.Lent.{Lent, sizes}
use Rattle.book.specs.Example.{bytes_q, bytes_dear}
use Rattle.checker.specs.declared.Checking.{Checking}
use Rattle.checker.specs.declared.TableChecking.{TableChecking}
use Rattle.checker.specs.Checks.{Checks}
use Rattle.checker.specs.TableChecks.{TableChecks}

-- in buffers that are long enough, checking these bytes answers this
pub record Judges (book : List ℕ) (answer : Checking) : Type 0 where
  pub result : {l : Lent} {r : Checking} {l' : Lent} → Checks book l r l' → LongEnough (sizes l) → r ≡ answer

-- an item's record
abbrev pub recorded : Item → List ℕ
recorded x = frame (item_rec x)

pub record QChecked : Type 0 where
  -- "Q1 all five items are accepted."
  pub q1 : Judges bytes_q (record { code = 0; place = 0; n = 3; m = 3; items = 5; units = 27 })
  -- "Q2 item 1 with psi 3 isn't.": its record stands from 129 to 153
  pub q2 : Judges (take 129 bytes_q ++ (recorded item_q2 ++ drop 153 bytes_q))
      (record { code = 8; place = 129; n = 0; m = 0; items = 0; units = 13 })
  -- "Q3 2 / 2, 7, 7 isn't (stuck)."
  pub q3 : Judges (bytes_q ++ recorded item_q3) (record { code = 8; place = 225; n = 0; m = 0; items = 0; units = 29 })
  -- 02: "Case Q4 becomes a rejected item."
  pub q4 : Judges (bytes_q ++ recorded item_q4) (record { code = 12; place = 225; n = 0; m = 0; items = 0; units = 33 })
  -- phi zero and psi zero are well-formed, and 12
  pub no_phi : Judges (bytes_q ++ recorded (made (1 ∷ []) (0 ∷ []) 0 1)) (record { code = 12; place = 225; n = 0; m = 0; items = 0; units = 29 })
  pub no_psi : Judges (bytes_q ++ recorded (made (1 ∷ []) (0 ∷ []) 7 0)) (record { code = 12; place = 225; n = 0; m = 0; items = 0; units = 27 })
  -- 02: "judged item by item beside 8": of two wrong items the first decides
  pub eight_first : Judges (bytes_q ++ (recorded item_q3 ++ recorded item_q4)) (record { code = 8; place = 225; n = 0; m = 0; items = 0; units = 29 })
  pub twelve_first : Judges (bytes_q ++ (recorded item_q4 ++ recorded item_q3)) (record { code = 12; place = 225; n = 0; m = 0; items = 0; units = 33 })
  -- 02, of the units: "up to and including the first reverse command that some state can't carry out": the first of two, and the second of three
  pub stuck_first : Judges (bytes_q ++ recorded (made (2 ∷ []) (2 ∷ 1 ∷ []) 7 7)) (record { code = 8; place = 225; n = 0; m = 0; items = 0; units = 29 })
  pub stuck_second : Judges (bytes_q ++ recorded (made (2 ∷ []) (1 ∷ 2 ∷ 0 ∷ []) 7 7))
      (record { code = 8; place = 225; n = 0; m = 0; items = 0; units = 30 })
  -- "or the start's last command where a run ends outside S": the one forward command, where there is no reverse one
  pub no_reverse : Judges (bytes_q ++ recorded (made (1 ∷ []) [] 7 1)) (record { code = 8; place = 225; n = 0; m = 0; items = 0; units = 28 })
  -- the book with weights, and with the item of Q3 behind its items, whose record stands at 165
  pub dear : Judges bytes_dear (record { code = 0; place = 0; n = 3; m = 3; items = 2; units = 7 })
  pub dear_wrong : Judges (bytes_dear ++ recorded item_q3) (record { code = 8; place = 165; n = 0; m = 0; items = 0; units = 9 })
  -- 02, of the weights: "filled wherever the table is", on 8 too
  pub dear_filled : {l : Lent} {r : Checking} {l' : Lent} → Checks (bytes_dear ++ recorded item_q3) l r l' → LongEnough (sizes l)
      → take 3 l'.weights ≡ 300 ∷ 2 ∷ 1 ∷ []

-- with a table as the only buffer, one that is long enough: the answer, and an entry of the table
pub record TableGives (book : List ℕ) (answer : TableChecking) (entry mask : ℕ) : Type 0 where
  pub result : {table : List ℕ} {r : TableChecking} {table' : List ℕ} → TableChecks book table r table' → 2048 ≤ length table
      → (r ≡ answer) × (get_or table' entry 0 ≡ mask)

-- and where nothing is read
pub record TableKept (book : List ℕ) (answer : TableChecking) : Type 0 where
  pub result : {table : List ℕ} {r : TableChecking} {table' : List ℕ} → TableChecks book table r table' → 2048 ≤ length table
      → (r ≡ answer) × (table' ≡ table)

pub record TablesChecked : Type 0 where
  -- entry 2 is that of state 0, command 2: outcomes 1 and 2
  pub q1 : TableGives bytes_q (record { code = 0; place = 0; n = 3; m = 3 }) 2 6
  -- "table .. read", on 8 and 12 too
  pub q3 : TableGives (bytes_q ++ recorded item_q3) (record { code = 8; place = 225; n = 0; m = 0 }) 2 6
  pub q4 : TableGives (bytes_q ++ recorded item_q4) (record { code = 12; place = 225; n = 0; m = 0 }) 2 6
  -- n and m are told apart: 4 states, 1 command, one move, from 3 to 0
  pub four_one : TableGives (2 ∷ 0 ∷ 1 ∷ 0 ∷ 4 ∷ 1 ∷ 10 ∷ 0 ∷ 2 ∷ 0 ∷ 3 ∷ 0 ∷ 1 ∷ 0 ∷ 0 ∷ 0 ∷ 0 ∷ 0 ∷ 0 ∷ 0 ∷ [])
      (record { code = 0; place = 0; n = 4; m = 1 }) 3 1
  -- Q without its last byte: its last item's record stands at 201
  pub cut : TableKept (take 224 bytes_q) (record { code = 2; place = 201; n = 0; m = 0 })
  -- a table of 2,047 entries, whatever the book is
  pub short : {book table : List ℕ} {r : TableChecking} {table' : List ℕ} → TableChecks book table r table' → length table ≡ 2047
      → (r ≡ record { code = 1; place = 0; n = 0; m = 0 }) × (table' ≡ table)
