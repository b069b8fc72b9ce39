-- An iterator over the states of a set gives the lowest, and then those of the set without it. Assumes nothing.
use mathlib.Core.Path.{ap}
use lib.ListN.{length}
use Rattle.std.proofs.Common.{rules}
use Rattle.states.proofs.Row.{row_end, row_next}
use Rattle.states.proofs.StatesIterator.next.Goals as goal

pub returns-then-left-eq0-clause-steps : goal.returns-then-left-eq0-clause-steps
returns-then-left-eq0-clause-steps c = let e = row_end _ c.if-left-eq0.true in (e, e)

pub returns-clause-steps : goal.returns-clause-steps
returns-clause-steps c = row_next _ _ _ c.if-left-eq0.false (search rules) c.lowest.ensures c.without_lowest-self.ensures

pub returns-clause-goes : goal.returns-clause-goes
returns-clause-goes c =
    let e = row_next _ _ _ c.if-left-eq0.false (search rules) c.lowest.ensures c.without_lowest-self.ensures in
    search (rules, ap length e)
