-- What checking answers and leaves in the lent buffers (01, its table of codes: "checking a book is reading and 8"; with 02, 8 or 12, and the units
-- made), for the reader.
-- Assumes nothing: these are definitions.
use Rattle.std.specs.Prelude.{◌≡◌, List, ℕ, suc, ◌+◌, length, take}
use Rattle.base.specs.Lists.{Each}
use Rattle.base.specs.Lowest.{LowestWrong}
use Rattle.reversal.specs.Reversal.{Accepted}
use Rattle.reversal.specs.Units.{sum_units, UnitsToFailure}
use Rattle.reversal.specs.Chains.{item}
use Rattle.book.specs.Book.{Book, device_of, AllowedBook, bytes_of, items_of}
use Rattle.book.specs.Lent.{Lent}
use Rattle.reader.specs.declared.Reading.{Reading}
use Rattle.reader.specs.Reads.{refusal, done, Filled, Reads}
use Rattle.checker.specs.declared.Checking.{Checking}
use Rattle.checker.specs.declared.Reason.{Reason}
use Rattle.checker.specs.declared.Reason.TheVariants.{NoReversePlan, NotEffective}
use Rattle.checker.specs.Reasons.{code_of, Due}

-- "every item in it is accepted"
abbrev pub AllAccepted : Book → Type 0
AllAccepted b = Each (Accepted (device_of b)) (items_of b)

-- 01: "A book is accepted when it keeps the rules for its bytes and every item in it is accepted."
pub record AcceptedBook (book : List ℕ) (b : Book) : Type 0 where
  pub allowed : AllowedBook b
  pub bytes : bytes_of b ≡ book
  pub accepted : AllAccepted b

-- the offset of item i's record: what stands before it is the book with the items before it
abbrev pub place_of : Book → ℕ → ℕ
place_of b i = length (bytes_of (record { n = b.n; m = b.m; weights = b.weights; moves = b.moves; items = take i (items_of b) }))

-- item i is the first wrong one
abbrev pub FirstWrong : Book → ℕ → Type 0
FirstWrong b i = LowestWrong (λ j. Accepted (device_of b) (item (items_of b) j)) (length (items_of b)) i

-- item i is the first wrong one, for this reason
pub record WrongFor (b : Book) (i : ℕ) (why : Reason) : Type 0 where
  pub first : FirstWrong b i
  pub due : Due why (device_of b) (item (items_of b) i)

-- 02: "Items come as they stand"; "The check carries the count that it made: .. On 8 it is the units up to and including the first reverse command
-- that some state can't carry out, or the start's last command where a run ends outside S; on 12, all units up to that item's end.": item i of b is
-- the first wrong one
abbrev pub UnitsMade : Book → ℕ → Reason → ℕ → Type 0
UnitsMade b i NoReversePlan units =
    (here : ℕ) × UnitsToFailure (device_of b) (item (items_of b) i) here × (units ≡ sum_units b.n (take i (items_of b)) + here)
UnitsMade b i NotEffective units = units ≡ sum_units b.n (take (suc i) (items_of b))

-- the buffers read from a book that is accepted
pub record Checked (book : List ℕ) (l : Lent) (b : Book) (l' : Lent) : Type 0 where
  pub filled : Filled book l b l'
  pub accepted : AllAccepted b

-- an answer of reading with the units made
abbrev pub with_units : Reading → ℕ → Checking
with_units q units = record { code = q.code; place = q.place; n = q.n; m = q.m; items = q.items; units = units }

-- of a book and the lent buffers at entry; the result and the buffers at exit
pub data Checks (book : List ℕ) (l : Lent) (result : Checking) (l' : Lent) : Type 0 where
  -- what reading refuses, as it does; 02: "0 on any other refusal"
  unread : {q : Reading} → Reads book l q l' → (q.code ≡ 0 → ⊥) → result ≡ with_units q 0 → Checks book l result l'
  -- "8, record's offset: item not accepted; the place is that of the first wrong item; table and slots read"; 02, of 12: "judged item by item beside
  -- 8; table and slots read": the first item wrong by either rule decides, with its own code; of the weights: "filled wherever the table is"
  wrong : (b : Book) → Filled book l b l' → {i : ℕ} {why : Reason} → WrongFor b i why → {units : ℕ} → UnitsMade b i why units
      → result ≡ with_units (refusal (code_of why) (place_of b i)) units → Checks book l result l'
  -- "0, 0: done"; 02: "equal to the forecast on acceptance"
  fine : (b : Book) → Checked book l b l' → result ≡ with_units (done b) (sum_units b.n (items_of b)) → Checks book l result l'
