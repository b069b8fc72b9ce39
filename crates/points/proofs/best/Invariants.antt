-- `best`: with the items to come, the choice so far becomes the choice, and none of them goes down further than point j.
use Rattle.std.proofs.Common.{◌≤◌, get_or}
use Rattle.base.specs.Lists.{Each}
use Rattle.states.specs.StateSets.{states_left}
use Rattle.states.proofs.Row.{Coming}
use Rattle.points.specs.Rows.{cheaper, cheapest}
use Rattle.points.proofs.best.Given as goal

abbrev pub invariant-loop-a : goal.invariant-loop-a
invariant-loop-a l =
    Coming (cheaper l.ks l.prices l.fewest l.j) 64 (cheapest l.ks l.prices l.fewest l.j l.row) l.choice (states_left l.a-iterator)
    × Each (λ a. get_or l.ks a 0 ≤ l.j) (states_left l.a-iterator)
