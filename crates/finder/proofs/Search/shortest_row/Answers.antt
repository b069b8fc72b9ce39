-- `shortest_row` meets its contract. Assumes nothing.
use mathlib.Core.Path.{sym, ◌∙◌}
use Rattle.std.proofs.Common.{zero-add}
use native.Mathlib.Omega.{arith}
use Rattle.finder.proofs.Trying.{longer_found, longer_next, longer_none}
use Rattle.finder.proofs.Search.shortest_row.Goals as goal

pub returns-in-Some : goal.returns-in-Some
returns-in-Some c = longer_found _ _ _ (omega (arith, c.loop-count-test.true)) c.loop-count.invariant _ (sym c.in-Some.is ∙ (rw zero-add at c.lowest_row.ensures))

pub loop-count-preserved : goal.loop-count-preserved
loop-count-preserved c = longer_next _ _ _ (omega (arith, c.loop-count-test.true)) c.loop-count.invariant (sym c.in_default.is ∙ (rw zero-add at c.lowest_row.ensures))

pub returns : goal.returns
returns c = longer_none _ _ _ (omega (arith, c.loop-count-test.false)) c.loop-count.invariant
