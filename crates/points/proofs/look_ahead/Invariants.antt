-- `look_ahead`: the numbers below j are there.
use Rattle.std.proofs.Common.{◌≡◌, ◌≤◌, length}
use Rattle.points.specs.Rows.{Ahead}
use Rattle.points.proofs.look_ahead.Given as goal

abbrev pub invariant-loop-j : goal.invariant-loop-j
invariant-loop-j l = Ahead l.run l.j l.ahead × (length l.ahead ≡ 33) × (l.j ≤ l.i)
