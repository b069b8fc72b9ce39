-- `StateSet::is_inside`. Assumes nothing.
use mathlib.Core.Path.{refl}
use Rattle.base.specs.Masks.{inside}
use Rattle.states.proofs.StateSet.is_inside.Goals as goal

pub returns : goal.returns
unfolding inside
returns c = refl
