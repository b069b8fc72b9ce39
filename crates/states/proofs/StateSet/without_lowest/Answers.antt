-- `StateSet::without_lowest`: the mask and one less, in both. Assumes nothing.
use mathlib.Core.Path.{ap, sym, ◌∙◌}
use borrow.Author.Tests.{eqb-true, eqb-false}
use Rattle.std.proofs.Common.{rules}
use Rattle.base.proofs.Visits.{lowest-none, lowest_off}
use Rattle.states.specs.StateSets.{set_of}
use Rattle.states.proofs.StateSet.without_lowest.Goals as goal

pub returns-then-is_empty : goal.returns-then-is_empty
returns-then-is_empty c = ap set_of (lowest-none _ (eqb-true _ 0 (sym c.is_empty.ensures ∙ c.if-is_empty.true)))

pub returns : goal.returns
returns c = c.of.ensures ∙ ap set_of (lowest_off _ (eqb-false _ 0 (sym c.is_empty.ensures ∙ c.if-is_empty.false)) (search rules))
