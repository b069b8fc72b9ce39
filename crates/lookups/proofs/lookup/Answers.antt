-- `lookups::lookup` meets its contract: where the table is the rule's, the answer is the one that 01 words. Assumes nothing.
use Rattle.std.proofs.Common.{◌∙◌, ap}
use Rattle.base.specs.Tables.{cell}
use Rattle.lookups.specs.Computed.{answered}
use Rattle.lookups.proofs.lookup.Goals as goal

pub returns-clause-by_rule : goal.returns-clause-by_rule
unfolding cell
returns-clause-by_rule g c = λ not-empty e.
    record {
      outside = λ o. c.from.ensures ∙ ap answered (c.mask_in.ensures.outside o);
      inside = λ a b. (_, e.masks _ _ a b, c.from.ensures ∙ ap answered (c.mask_in.ensures.inside a b));
    }
