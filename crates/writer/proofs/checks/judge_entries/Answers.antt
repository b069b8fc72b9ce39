-- The first that is found is the lowest; there is none where n is 64, or where the union has no bit at n or above. Assumes nothing.
use Rattle.std.proofs.Common.{rules, tests, arith, ◌∙◌, sym, get_or}
use Rattle.std.proofs.lemmas.Iterator.{YieldsList-from_range}
use Rattle.std.proofs.lemmas.Iterator.Search.{find_from_yields_List}
use Rattle.base.proofs.Masks.{word_clear}
use Rattle.writer.specs.Lowest.{entry_wrong, lowest_entry}
use Rattle.writer.proofs.Scans.{first_found, no_wrong_entry}
use Rattle.writer.proofs.checks.judge_entries.Goals as goal
use Rattle.writer.proofs.checks.judge_entries.Goals.{then-n-ge64-via-then-n-ge64, then-n-ge64-via-else-n-ge64+then-mask_fine}

pub returns-then-n-ge64 : goal.returns-then-n-ge64
returns-then-n-ge64 c =
    let a = c.args in
    elim c.then-n-ge64.branch [
      | then-n-ge64-via-then-n-ge64 w ↦
          no_wrong_entry a.n a.k a.t.now (λ i h. word_clear a.n (get_or a.t.now i 0) w.if-n-ge64.true (omega (arith, c.type_inv.t i)))
      | then-n-ge64-via-else-n-ge64+then-mask_fine w ↦
          no_wrong_entry a.n a.k a.t.now (λ i h. w.union.ensures a.n i h (sym w.mask_fine.ensures ∙ w.if-mask_fine.true))
    ]

pub returns : goal.returns
unfolding lowest_entry
returns c =
    let test = entry_wrong c.args.n c.args.t.now in
    let f = find_from_yields_List test _ _ c.find.result c.find.ensures.ran (YieldsList-from_range 0 c.args.k c.args.k (search rules) (omega arith))
    (λ x b q k. search (rules, tests)) in
    c.unless_found.ensures ∙ first_found test c.args.k c.find.result f
