-- `StateSet::has`: shift and mask is membership. Assumes nothing.
use mathlib.Core.Path.{sym}
use Rattle.std.proofs.Common.{rules}
use Rattle.base.proofs.Masks.{shifted, word_none}
use Rattle.states.proofs.StateSet.has.Goals as goal

pub returns-then-state-lt64 : goal.returns-then-state-lt64
returns-then-state-lt64 c = shifted _ _

pub returns-else-state-lt64 : goal.returns-else-state-lt64
returns-else-state-lt64 c = sym (word_none _ _ c.if-state-lt64.false (search rules))
