-- `StateSet::add`: the state's bit is set where there is one. Assumes nothing.
use mathlib.Core.Path.{ap}
use Rattle.base.proofs.Masks.{added-here, added_none}
use Rattle.states.specs.StateSets.{set_of}
use Rattle.states.proofs.StateSet.add.Goals as goal

pub returns-then-state-lt64 : goal.returns-then-state-lt64
returns-then-state-lt64 c = ap set_of (added-here _ _ c.if-state-lt64.true)

pub returns-else-state-lt64 : goal.returns-else-state-lt64
returns-else-state-lt64 c = ap set_of (added_none _ _ c.if-state-lt64.false)
