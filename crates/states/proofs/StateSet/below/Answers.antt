-- `StateSet::below`: the lowest n bits. Assumes nothing.
use mathlib.Core.Path.{ap, ◌∙◌}
use Rattle.std.proofs.Common.{rules}
use Rattle.base.proofs.Visits.{low_bits, low-all}
use Rattle.states.specs.StateSets.{set_of}
use Rattle.states.proofs.StateSet.below.Goals as goal

pub returns-then-n-lt64 : goal.returns-then-n-lt64
returns-then-n-lt64 c = c.within.ensures ∙ ap set_of (low_bits _ _ c.if-n-lt64.true)

pub returns : goal.returns
returns c = ap set_of (low-all _ _ c.if-n-lt64.false (search rules))
