-- `StateSet::lowest`: counting trailing zeros gives the lowest state. Assumes nothing.
use Rattle.base.proofs.Trailing.{trailing_lowest}
use Rattle.states.proofs.StateSet.lowest.Goals as goal

pub returns : goal.returns
returns c = trailing_lowest _
