-- 01's runs Q5, Q6 and Q8 on Q with leg structs, as literals. Assumes nothing: these are definitions.
use Rattle.std.specs.Prelude.{List, [], ◌∷◌, ℕ}
use Rattle.base.specs.Lists.{Written}
use Rattle.base.specs.Sizes.{LongEnough}
use Rattle.reversal.specs.Runs.{Run}
use Rattle.reversal.specs.Twelve.{run}
use Rattle.book.specs.Example.{bytes_q}
use Rattle.runs.specs.RunBytes.{run_bytes}
use Rattle.assembly.specs.Asked.{asked}
use Rattle.assembly.specs.declared.Assembly.{Assembly}
use Rattle.assembly.specs.Lent.{AllLent, all_sizes}
use Rattle.assembly.specs.Assembles.{Assembles}
use Rattle.planner.specs.declared.Leg.{Leg}
use Rattle.planner.specs.Structs.{in_structs}

abbrev pub leg : ℕ → ℕ → ℕ → Leg
leg item upper lower = record { item = item; upper = upper; lower = lower }

-- in buffers that are long enough: the structs written, and all others kept
pub record StructsGiven (u : Run) (ls : List Leg) : Type 0 where
  pub written : {l : AllLent Leg} {r : Assembly} {l' : AllLent Leg} → Assembles in_structs (asked bytes_q (run_bytes u)) l r l'
      → LongEnough (all_sizes in_structs l) → Written ls l.room.legs l'.room.legs

pub record StructRuns : Type 0 where
  pub q5 : StructsGiven (run (2 ∷ 1 ∷ []) (7 ∷ 7 ∷ 7 ∷ [])) (leg 2 2 0 ∷ [])
  pub q6 : StructsGiven (run (2 ∷ 1 ∷ []) (7 ∷ 2 ∷ 7 ∷ [])) (leg 2 2 0 ∷ [])
  pub q8 : StructsGiven (run (1 ∷ 1 ∷ []) (1 ∷ 7 ∷ 7 ∷ [])) (leg 3 2 1 ∷ leg 1 1 0 ∷ [])
