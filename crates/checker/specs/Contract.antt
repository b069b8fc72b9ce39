-- What checking answers, computed, over reading's chain of tests, of the bytes alone. proofs/Exactly ties it to specs/Checks. Assumes nothing: these are definitions.
use Rattle.std.specs.Prelude.{◌≡◌, Bool, false, not, List, ℕ, ◌-◌, ◌≤◌, ◌<◌, length, drop, Result, Ok, Err}
use Rattle.base.specs.Lists.{Each}
use Rattle.base.specs.Sizes.{LongEnough}
use Rattle.base.specs.Tests.{pick}
use Rattle.base.specs.Compare.{less}
use Rattle.base.specs.Bounded.{seek}
use Rattle.reversal.specs.Device.{Device}
use Rattle.reversal.specs.Reversal.{Item}
use Rattle.reversal.specs.Chains.{item}
use Rattle.reversal.specs.Computed.Sets.{runs_back, reverses, accepts}
use Rattle.reversal.specs.Computed.Units.{back_units, items_made}
use Rattle.states.specs.StateSets.{in_limits}
use Rattle.moves.specs.Moves.{moved}
use Rattle.book.specs.Book.{Book, device_of, AllowedBook, bytes_of, items_of}
use Rattle.book.specs.Faults.{code_of}
use Rattle.book.specs.Lent.{Lent, sizes}
use Rattle.reader.specs.Reads.{refusal, done}
use Rattle.book.specs.Buffers.{table_of}
use Rattle.reader.specs.Contract.{book_by, filled_by}
use Rattle.book.specs.declared.fault.FaultAt.{FaultAt}
use Rattle.checker.specs.declared.Counts.{Counts}
use Rattle.checker.specs.declared.Checking.{Checking}
use Rattle.checker.specs.declared.TableChecking.{TableChecking}
use Rattle.checker.specs.declared.Rejected.{Rejected}
use Rattle.checker.specs.declared.Reason.{Reason}
use Rattle.checker.specs.declared.Reason.TheVariants.{NoReversePlan, NotEffective}
use Rattle.checker.specs.Reasons.{fault_of}
use Rattle.checker.specs.Checks.{place_of, with_units}
use Rattle.checker.specs.TableChecks.{TableChecks}

-- a book with a fault: no unit is made
abbrev pub unread : FaultAt → Rejected
unread at = record { at = at; units = 0 }

-- what checking answers C, as its result is
abbrev pub checking_by : Result Counts Rejected → Checking
checking_by (Ok b) = record { code = 0; place = 0; n = b.n; m = b.m; items = b.items; units = b.units }
checking_by (Err r) = with_units (refusal (code_of r.at.fault) r.at.place) r.units

-- what a reverse run answers: that it arrives, else the number of commands that were not applied, those behind the one that couldn't be carried out
unfoldable pub back_of : Device → ℕ → List ℕ → ℕ → Result (Unit {0}) ℕ
back_of d w commands goal = pick (runs_back d w commands goal) (Ok tt) (Err (length commands - back_units d w commands))

-- whether it arrives; outside the limits of n and m it doesn't
unfoldable pub returns_in : Device → ℕ → List ℕ → ℕ → Bool
returns_in d w commands goal = pick (in_limits d.n d.m) (runs_back d w commands goal) false

-- the lowest item that is not accepted, or their number
unfoldable pub wrong_item : Book → ℕ
wrong_item b = seek (λ i. not (accepts (device_of b) (item (items_of b) i))) 0 (length (items_of b))

-- the reason of an item that is not accepted
unfoldable pub reason_for : Device → Item → Reason
reason_for d x = pick (reverses d x) NotEffective NoReversePlan

-- that of the lowest such item
abbrev pub reason_in : Book → Reason
reason_in b = reason_for (device_of b) (item (items_of b) (wrong_item b))

-- the units made for the judgement of b's items
abbrev pub units_of : Book → ℕ
units_of b = items_made (device_of b) (items_of b)

-- a wrong item whose record begins at a place
abbrev pub wrong_for : ℕ → Reason → ℕ → Rejected
wrong_for place why units = record { at = record { fault = fault_of why; place = place }; units = units }

-- the judgement: these units, where a wrong item is found too; the first wrong one's record, and why
unfoldable pub judgement_of : Book → Result ℕ Rejected
judgement_of b =
    pick (less (wrong_item b) (length (items_of b))) (Err (wrong_for (place_of b (wrong_item b)) (reason_in b) (units_of b)))
    (Ok (units_of b))

-- the contract of `judge_items`: book s, the device d that is lent, answer r
abbrev pub JudgedAs : List ℕ → Device → Result ℕ Rejected → Type 0
JudgedAs s d r = (b : Book) → AllowedBook b → bytes_of b ≡ s → d ≡ device_of b → r ≡ judgement_of b

abbrev pub on_judgement : {A : Type 0} → Result ℕ Rejected → (ℕ → ℕ → A) → A → A
on_judgement (Ok units) refuse fine = fine
on_judgement (Err r) refuse fine = refuse (code_of r.at.fault) r.at.place

-- of a book that was read: the code for its first wrong item, at that item's place, else `fine`
abbrev pub judged_by : {A : Type 0} → (ℕ → ℕ → A) → (Book → A) → Book → A
judged_by refuse fine b = on_judgement (judgement_of b) refuse (fine b)

-- the contract of `judge_book`: book s, the device d that is lent, the number of its items, answer r
abbrev pub BookJudged : List ℕ → Device → ℕ → Result Counts Rejected → Type 0
BookJudged s d items r =
    (b : Book) → AllowedBook b → bytes_of b ≡ s → d ≡ device_of b → items ≡ length (items_of b)
    → checking_by r ≡ with_units (judged_by refusal done b) (units_of b)

-- `refuse` with the first code and its place, `fine` with an accepted book
unfoldable pub check_by : {A : Type 0} → List ℕ → (ℕ → ℕ → A) → (Book → A) → A
check_by s refuse fine = book_by s refuse (judged_by refuse fine)

-- the units made: none where the book is not read
abbrev pub units_by : List ℕ → ℕ
units_by s = book_by s (λ code place. 0) units_of

-- what checking answers for the bytes s where every lent buffer is long enough
pub record CheckingOf (s : List ℕ) (r : Checking) : Type 0 where
  pub bytes : Each (λ x. x < 256) s
  pub result : r ≡ with_units (check_by s refusal done) (units_by s)

-- the contract of `check`; the buffers are filled as by reading
pub record CheckAs (s : List ℕ) (l : Lent) (r : Checking) (l' : Lent) : Type 0 where
  pub bytes : Each (λ x. x < 256) s
  pub short : (LongEnough (sizes l) → ⊥) → (r ≡ with_units (refusal 1 0) 0) × (l' ≡ l)
  pub enough : LongEnough (sizes l) → CheckingOf s r × (l' ≡ filled_by s l)

-- the contract of `check_small`, with a scratch of 64 masks: where the book is accepted, its device is in its moves and the scratch; what lies past the 64
-- stays
pub record CheckSmallAs (s scratch : List ℕ) (r : Checking) (scratch' : List ℕ) : Type 0 where
  pub checking : 64 ≤ length scratch → CheckingOf s r
  pub device : 64 ≤ length scratch → r.code ≡ 0 → (b : Book) → AllowedBook b → bytes_of b ≡ s → moved s b.n b.m scratch' ≡ device_of b
  pub rest : drop 64 scratch' ≡ drop 64 scratch

-- the contract of `check_in_table`, whose answer has the units too
pub record CheckInTableAs (s table : List ℕ) (r : Checking) (table' : List ℕ) : Type 0 where
  pub bytes : Each (λ x. x < 256) s
  pub short : length table < 2048 → (r ≡ with_units (refusal 1 0) 0) × (table' ≡ table)
  pub enough : 2048 ≤ length table → CheckingOf s r × (table' ≡ book_by s (λ code place. table) (λ b. table_of b table))

-- the contract of `check_table`
pub record CheckTableAs (s table : List ℕ) (r : TableChecking) (table' : List ℕ) : Type 0 where
  pub bytes : Each (λ x. x < 256) s
  pub says : TableChecks s table r table'
