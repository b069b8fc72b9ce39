-- `StateSet::after`: the set of what visiting gives. Assumes nothing.
use Rattle.states.proofs.Laws.{visited_set}
use Rattle.states.proofs.StateSet.after.Goals as goal

pub returns : goal.returns
returns g c = visited_set _ _ _ _ c.visit.ensures
