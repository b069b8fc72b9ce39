-- `mark`: item a is in the rows of the points passed.
use Rattle.std.proofs.Common.{◌≤◌}
use Rattle.points.proofs.Rows.{Marking}
use Rattle.points.proofs.mark.Given as goal

abbrev pub invariant-loop-j : goal.invariant-loop-j
invariant-loop-j l = Marking l.item l.ahead l.sets l.a l.j l.initial.rows l.rows × (l.item.k ≤ l.j)
