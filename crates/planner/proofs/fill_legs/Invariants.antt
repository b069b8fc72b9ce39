-- `fill_legs`: storing what is left gives the whole. Assumes nothing.
use Rattle.std.proofs.Common.{◌≡◌, ◌-◌}
use Rattle.std.proofs.lemmas.List.Edits.{sets}
use Rattle.planner.specs.Whole.{structs_in}
use Rattle.planner.proofs.fill_legs.Given as goal

abbrev pub invariant-loop-i : goal.invariant-loop-i
invariant-loop-i l = sets l.legs l.i (structs_in l.bytes (l.count - l.i) l.i) ≡ sets l.initial.legs 0 (structs_in l.bytes l.count 0)
