-- The first that is found is the lowest. Assumes nothing.
use Rattle.std.proofs.Common.{rules, tests, arith, ap, ◌≡◌, ◌∙◌, ℕ, not, take}
use Rattle.std.specs.Prelude.{Ok}
use Rattle.std.proofs.lemmas.Iterator.{YieldsList-from_range}
use Rattle.std.proofs.lemmas.Iterator.Search.{find_from_yields_List}
use Rattle.std.proofs.lemmas.List.{get_or-take}
use Rattle.base.specs.Bounded.{seek}
use Rattle.base.proofs.Bounded.{seek-same}
use Rattle.book.specs.Limits.{weight_fine}
use Rattle.writer.specs.Lowest.{weight_wrong, lowest_weight, unless_below}
use Rattle.writer.proofs.Scans.{first_found}
use Rattle.writer.proofs.checks.judge_weights.Goals as goal

pub returns : goal.returns
unfolding lowest_weight
returns c =
    let k = c.args.k in
    let w = c.args.w.now in
    let test = weight_wrong (take k w) in
    let f = find_from_yields_List test _ _ c.find.result c.find.ensures.ran (YieldsList-from_range 0 k k (search rules) (omega arith))
    (λ x b q k. search (rules, tests)) in
    let same : seek test 0 k ≡ seek (weight_wrong w) 0 k =
    seek-same test (weight_wrong w) k 0 (λ x l h. ap (λ (v : ℕ). not (weight_fine v)) (get_or-take k w x 0 (omega arith))) in
    c.unless_found.ensures ∙ (first_found test k c.find.result f ∙ ap (λ (i : ℕ). unless_below i k (Ok tt)) same)
