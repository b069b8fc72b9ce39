-- `points_of`: what is known of the items read, and the numbers below point j.
use Rattle.std.proofs.Common.{◌+◌, ◌-◌, ◌≤◌}
use Rattle.points.specs.Items.{recorded}
use Rattle.points.specs.Links.{links_of, Numbered}
use Rattle.points.proofs.Rows.{Listed}
use Rattle.points.proofs.points_of.Given as goal

abbrev pub invariant-loop-a : goal.invariant-loop-a
invariant-loop-a l =
    Listed (links_of (recorded l.book l.places) l.weights l.run l.sets l.count) l.i l.a l.rows l.ks l.prices × (l.a ≤ l.count)

abbrev pub invariant-loop-j : goal.invariant-loop-j
invariant-loop-j l =
    Numbered (links_of (recorded l.book l.places) l.weights l.run l.sets l.count) (l.j - 1) l.fewest l.items × (1 ≤ l.j) × (l.j ≤ l.i + 1)
