-- What assembling answers and leaves in the lent buffers (01, "Chains and plans" and its table of codes), for the reader.
-- Assumes nothing: these are definitions.
use Rattle.std.specs.Prelude.{◌≡◌, ℕ, replicate}
use Rattle.base.specs.Lists.{Written}
use Rattle.base.specs.Sizes.{LongEnough}
use Rattle.reversal.specs.Runs.{Run, AllowedRun}
use Rattle.reversal.specs.Chains.{none}
use Rattle.reversal.specs.Answers.{Answer, Answers}
use Rattle.book.specs.Book.{Book, device_of, items_for}
use Rattle.checker.specs.declared.Checking.{Checking}
use Rattle.checker.specs.Checks.{Checked, Checks}
use Rattle.runs.specs.RunBytes.{run_bytes, RunFormed}
use Rattle.assembly.specs.Asked.{Asked}
use Rattle.assembly.specs.declared.Assembly.{Assembly}
use Rattle.assembly.specs.Lent.{LegForm, Room, AllLent, all_sizes}

-- "Counts are 0 on refusals; the 33 numbers are all 65,535, except that 11 gives them true."; 02: "4,294,967,295 for none", the sum "0 on a refusal"
abbrev pub refusal : ℕ → ℕ → Assembly
refusal code place = record { code = code; place = place; commands = 0; legs = 0; sum = 0; fewest = replicate 33 none }

-- codes 0, 10 and 11, each at place 0
abbrev pub result_of : Answer → Assembly
result_of a = record { code = a.code; place = 0; commands = a.commands; legs = a.leg-count; sum = a.sum; fewest = a.fewest }

-- the answer a as result, plan and legs: "Plan bytes and legs past those counts keep what they held."
pub record Left {E : Type 0} (form : LegForm E) (a : Answer) (room : Room E) (result : Assembly) (room' : Room E) : Type 0 where
  pub result_is : result ≡ result_of a
  pub plan_written : Written a.plan-bytes room.plan room'.plan
  pub legs_written : Written (form.held a.plan-legs) room.legs room'.legs

-- of a book, a run and the lent buffers at entry; the result and the buffers at exit
pub data Assembles {E : Type 0} (form : LegForm E) (ask : Asked) (l : AllLent E) (result : Assembly) (l' : AllLent E) : Type 0 where
  -- "1, 0: a lent buffer shorter than stated; all untouched"
  short : (LongEnough (all_sizes form l) → ⊥) → result ≡ refusal 1 0 → l' ≡ l → Assembles form ask l result l'
  -- "then .. 8", with 02 8 or 12: what checking refuses, with its code and place, and table, slots and weights as checking
  -- leaves them
  unaccepted : LongEnough (all_sizes form l) → {c : Checking} → Checks ask.book l.read c l'.read → (c.code ≡ 0 → ⊥)
      → result ≡ refusal c.code c.place → l'.room ≡ l.room → Assembles form ask l result l'
  -- "9, 0: run isn't exactly one record as above, or a command or mask is outside m or n; table and slots read", with 02 the weights too
  faulty : LongEnough (all_sizes form l) → (b : Book) → Checked ask.book l.read b l'.read → (RunFormed (device_of b) ask.run → ⊥)
      → result ≡ refusal 9 0 → l'.room ≡ l.room → Assembles form ask l result l'
  -- "10", "11" and "0": the answer that 01 fixes for the book's device, weights and items and the run
  answered : LongEnough (all_sizes form l) → (b : Book) → Checked ask.book l.read b l'.read
      → (u : Run) → AllowedRun (device_of b) u → run_bytes u ≡ ask.run → (a : Answer) → Answers (device_of b) b.weights (items_for b) u a
      → Left form a l.room result l'.room → Assembles form ask l result l'
