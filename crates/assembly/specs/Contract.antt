-- What assembling answers and leaves in the lent buffers, computed, over checking's chain of tests, of book and run alone. proofs/Exactly ties it to specs/Assembles,
-- proofs/Small that with a scratch to specs/Small.
-- Assumes nothing: these are definitions.
use Rattle.std.specs.Prelude.{◌≡◌, List, ℕ, ◌<◌, drop}
use Rattle.std.proofs.lemmas.List.Edits.{sets}
use Rattle.base.specs.Lists.{Each}
use Rattle.base.specs.Sizes.{LongEnough}
use Rattle.base.specs.Tests.{pick}
use Rattle.reversal.specs.Device.{Device}
use Rattle.reversal.specs.Answers.{Answer}
use Rattle.reversal.specs.Computed.Assembly.{answer}
use Rattle.book.specs.Book.{Book, device_of, items_for}
use Rattle.reader.specs.Contract.{filled_by}
use Rattle.checker.specs.declared.Checking.{Checking}
use Rattle.checker.specs.Checks.{AcceptedBook}
use Rattle.checker.specs.Contract.{check_by, CheckingOf}
use Rattle.runs.specs.Computed.{run_of, run_faulty}
use Rattle.assembly.specs.Asked.{Asked}
use Rattle.assembly.specs.declared.Assembly.{Assembly}
use Rattle.assembly.specs.Lent.{LegForm, in_bytes, Room, AllLent, all_sizes}
use Rattle.points.specs.Items.{WeightsOf}
use Rattle.assembly.specs.Assembles.{refusal, result_of}
use Rattle.assembly.specs.Small.{small_sizes}

-- the answer for an accepted book, of the run's bytes
abbrev pub answer_of : Book → Asked → Answer
answer_of b ask = answer (device_of b) b.weights (items_for b) (run_of ask.run)

-- of an accepted book: code 9 for a faulty run, else `fine`
abbrev pub planned_by : {A : Type 0} → Asked → (ℕ → ℕ → A) → (Answer → A) → Book → A
planned_by ask refuse fine b = pick (run_faulty b.n b.m ask.run) (refuse 9 0) (fine (answer_of b ask))

-- `refuse` with the first code and its place, `fine` with the answer
unfoldable pub plan_by : {A : Type 0} → Asked → (ℕ → ℕ → A) → (Answer → A) → A
plan_by ask refuse fine = check_by ask.book refuse (planned_by ask refuse fine)

-- plan and legs with the answer a
abbrev pub room_of : {E : Type 0} → LegForm E → Room E → Answer → Room E
room_of form room a = record { plan = sets room.plan 0 a.plan-bytes; legs = sets room.legs 0 (form.held a.plan-legs) }

-- what assembling answers, and leaves in plan and legs, where every lent buffer is long enough; it is the contract of `planned`
pub record PlannedAs {E : Type 0} (form : LegForm E) (ask : Asked) (room : Room E) (r : Assembly) (room' : Room E) : Type 0 where
  pub bytes : Each (λ x. x < 256) ask.book
  pub bytes_of_run : Each (λ x. x < 256) ask.run
  pub result : r ≡ plan_by ask refusal result_of
  pub room_is : room' ≡ plan_by ask (λ code place. room) (room_of form room)

-- the contract of `assemble`, and of the call with leg structs: buffers l at entry; result r and buffers l' at exit
pub record AssembleAs {E : Type 0} (form : LegForm E) (ask : Asked) (l : AllLent E) (r : Assembly) (l' : AllLent E) : Type 0 where
  pub bytes : Each (λ x. x < 256) ask.book
  pub short : (LongEnough (all_sizes form l) → ⊥) → (r ≡ refusal 1 0) × (l' ≡ l)
  pub enough : LongEnough (all_sizes form l) → PlannedAs form ask l.room r l'.room × (l'.read ≡ filled_by ask.book l.read)

-- what `planned` asks: checking answered f with code 0; d is the book's device, and W holds its weights
pub record Lending (book : List ℕ) (d : Device) (W : List ℕ) (f : Checking) : Type 0 where
  pub checked : CheckingOf book f
  pub accepted : f.code ≡ 0
  pub device : (b : Book) → AcceptedBook book b → d ≡ device_of b
  pub weighed : (b : Book) → AcceptedBook book b → WeightsOf b.m b.weights W

-- the contract of `assemble_small`; what lies past the scratch's 64 masks stays
pub record SmallAs (ask : Asked) (scratch : List ℕ) (room : Room ℕ) (r : Assembly) (scratch' : List ℕ) (room' : Room ℕ) : Type 0 where
  pub bytes : Each (λ x. x < 256) ask.book
  pub short : (LongEnough (small_sizes scratch room) → ⊥) → (r ≡ refusal 1 0) × (scratch' ≡ scratch) × (room' ≡ room)
  pub enough : LongEnough (small_sizes scratch room) → PlannedAs in_bytes ask room r room'
  pub rest : drop 64 scratch' ≡ drop 64 scratch
