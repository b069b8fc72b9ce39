-- Demand 3, of a book's and a run's bytes, the lent buffers l at entry, the result r, and the buffers l' at exit, for the reader.
-- Assumes nothing: these are definitions.
use Rattle.std.specs.Prelude.{◌≡◌, ◌↔◌, ◌⊎◌, List, ℕ, ◌*◌, ◌≤◌, length, take}
use Rattle.base.specs.Sizes.{LongEnough}
use Rattle.reversal.specs.Runs.{Run, AllowedRun, last, History}
use Rattle.reversal.specs.Chains.{Chain, plan_of, legs_of, cost, LexLe, Undoes}
use Rattle.reversal.specs.Answers.{Numbers}
use Rattle.book.specs.Book.{Book, device_of, items_for}
use Rattle.checker.specs.Checks.{AcceptedBook}
use Rattle.runs.specs.RunBytes.{run_bytes}
use Rattle.assembly.specs.Asked.{Asked}
use Rattle.assembly.specs.declared.Assembly.{Assembly}
use Rattle.assembly.specs.Lent.{LegForm, Room, AllLent, all_sizes}

-- the bytes are those of an accepted book and of a run of its device
pub record Given (ask : Asked) (b : Book) (u : Run) : Type 0 where
  pub accepted : AcceptedBook ask.book b
  pub allowed : AllowedRun (device_of b) u
  pub bytes_of_run : run_bytes u ≡ ask.run

-- "no refusal that goes before it is due, some history fits the run"
pub record Ready {E : Type 0} (form : LegForm E) (ask : Asked) (l : AllLent E) (b : Book) (u : Run) : Type 0 where
  pub long : LongEnough (all_sizes form l)
  pub given : Given ask b u
  pub path : ℕ → ℕ
  pub history : History (device_of b) u path

-- "the legs written are those of a chain that fits the run, and the plan bytes and both counts in the result are that chain's. Nobody who sends the
-- whole plan from where a history stands last can get stuck or end anywhere but where that history began .. Every other chain of the book's items
-- that fits the run has at least as many commands as the result counts."; 02: "the sum in the result is the chain's, as both counts are, and the
-- least-cost claim is now about that sum; equal sums go to the lower item list"
pub record Planned {E : Type 0} (form : LegForm E) (b : Book) (u : Run) (r : Assembly) (room : Room E) : Type 0 where
  pub items : List ℕ
  pub chain : Chain (device_of b) u (items_for b) (last u) items
  pub plan_written : take r.commands room.plan ≡ plan_of (items_for b) items
  pub legs_written : take (form.width * r.legs) room.legs ≡ form.held (legs_of (items_for b) (last u) items)
  pub commands_counted : r.commands ≡ length (plan_of (items_for b) items)
  pub legs_counted : r.legs ≡ length items
  pub undoes : Undoes (device_of b) u (take r.commands room.plan)
  pub sum_is : r.sum ≡ cost b.weights (items_for b) items
  pub least_sum : (ys : List ℕ) → Chain (device_of b) u (items_for b) (last u) ys → r.sum ≤ cost b.weights (items_for b) ys
  pub lowest : (ys : List ℕ) → Chain (device_of b) u (items_for b) (last u) ys → cost b.weights (items_for b) ys ≡ r.sum → LexLe items ys

pub record Demand {E : Type 0} (form : LegForm E) (ask : Asked) (l : AllLent E) (r : Assembly) (l' : AllLent E) : Type 0 where
  -- "Where assembling gives a plan, the book is accepted, .."
  pub plan_given : r.code ≡ 0 → (b : Book) × ((u : Run) × Given ask b u × Planned form b u r l'.room)
  -- "'no chain' exactly when no refusal that goes before it is due, some history fits the run and no chain fits"
  pub no_chain :
      (r.code ≡ 11) ↔ ((b : Book) × ((u : Run) × Ready form ask l b u
      × ((ys : List ℕ) → Chain (device_of b) u (items_for b) (last u) ys → ⊥)))
  -- "where the first two hold and a chain does fit, it gives a plan"
  pub gives_plan : (b : Book) (u : Run) → Ready form ask l b u → (ys : List ℕ) → Chain (device_of b) u (items_for b) (last u) ys → r.code ≡ 0
  -- on 0 and 11 the least sum for each of the 33 points
  pub numbers : ((r.code ≡ 0) ⊎ (r.code ≡ 11)) → (b : Book) × ((u : Run) × Given ask b u × Numbers (device_of b) b.weights u (items_for b) r.fewest)
