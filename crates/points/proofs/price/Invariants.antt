-- `price`: the sum of the commands passed, and those that are left.
use Rattle.items.specs.Items.{held_in}
use Rattle.points.proofs.ReverseSum.{Summing}
use Rattle.points.proofs.price.Given as goal

abbrev pub invariant-loop-x : goal.invariant-loop-x
invariant-loop-x l = Summing l.weights (held_in l.book l.item).reverse l.x l.sum
