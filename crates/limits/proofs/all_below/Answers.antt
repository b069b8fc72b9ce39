-- Assumes nothing.
use Rattle.std.proofs.Common.{rules, tests, ◌∙◌, ltb}
use Rattle.std.proofs.lemmas.Iterator.{YieldsList-from_slice}
use Rattle.std.proofs.lemmas.Iterator.Search.{all_from_yields_List}
use Rattle.limits.proofs.Below.{all-below}
use Rattle.limits.proofs.all_below.Goals as goal

pub returns : goal.returns
returns c =
    all_from_yields_List (λ x. ltb x c.args.m) _ _ _ c.all.ensures.ran (YieldsList-from_slice c.args.commands.now c.iter.ensures.rest)
    (λ x b q k. search (rules, tests))
    ∙ all-below c.args.m c.args.commands.now
