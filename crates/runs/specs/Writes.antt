-- What writing a run answers, and what it leaves in the buffer. Assumes nothing: these are definitions.
use Rattle.std.specs.Prelude.{List, ℕ, suc, length, take}
use Rattle.std.proofs.lemmas.List.Edits.{sets}
use Rattle.base.specs.Tests.{pick}
use Rattle.base.specs.Compare.{less, at_most}
use Rattle.reversal.specs.Runs.{Run}
use Rattle.runs.specs.RunBytes.{run_bytes}

-- the run of the first i commands and the first i + 1 percepts
abbrev pub run_from : ℕ → List ℕ → List ℕ → Run
run_from i commands percepts = record { commands = take i commands; percepts = take (suc i) percepts }

-- `none` where i is over 32, there are fewer commands or percepts, or there is no room for the longest run, else `fine`
unfoldable pub if_written : {A : Type 0} → ℕ → List ℕ → List ℕ → List ℕ → A → A → A
if_written i commands percepts out none fine =
    pick (less 32 i) none
    (pick (less (length commands) i) none
    (pick (at_most (length percepts) i) none
    (pick (less (length out) 301) none fine)))

abbrev pub length_written : ℕ → List ℕ → List ℕ → List ℕ → ℕ
length_written i commands percepts out = if_written i commands percepts out 0 (length (run_bytes (run_from i commands percepts)))

abbrev pub out_written : ℕ → List ℕ → List ℕ → List ℕ → List ℕ
out_written i commands percepts out = if_written i commands percepts out out (sets out 0 (run_bytes (run_from i commands percepts)))
