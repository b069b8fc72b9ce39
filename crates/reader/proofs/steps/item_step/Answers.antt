-- each return is the first test that holds
use mathlib.Core.Path.{sym, ◌∙◌}
use native.Mathlib.Omega.{arith}
use Rattle.base.proofs.Picks.{tests, calls}
use Rattle.book.proofs.Limits.{counts_on}
use Rattle.reader.proofs.steps.item_step.Goals as goal

pub returns-then-not-allows-clause-value : goal.returns-then-not-allows-clause-value
returns-then-not-allows-clause-value c = search (tests, calls) depth 6

pub returns-then-st-ge64-clause-value : goal.returns-then-st-ge64-clause-value
returns-then-st-ge64-clause-value c = search (tests, calls) depth 8

pub returns-then-body-lt2-clause-value : goal.returns-then-body-lt2-clause-value
returns-then-body-lt2-clause-value c = search (tests, calls) depth 10

pub returns-then-not-counts_fine-clause-value : goal.returns-then-not-counts_fine-clause-value
returns-then-not-counts_fine-clause-value c =
    simp (← c.byte_at-k.ensures.value, ← c.byte_at-r.ensures.value) (search (tests, calls) depth 12)

pub returns-then-body-k-clause-value : goal.returns-then-body-k-clause-value
returns-then-body-k-clause-value c = simp (← c.byte_at-k.ensures.value, ← c.byte_at-r.ensures.value) (search (tests, calls) depth 14)

pub item_fine-requires : goal.item_fine-requires
item_fine-requires c =
    let q = counts_on _ _ (sym c.counts_fine.ensures ∙ c.if-not-counts_fine.false) in
    record { k_is = c.byte_at-k.ensures.value; r_is = c.byte_at-r.ensures.value; k_high = q.1; r_high = q.2; size = omega arith }

pub returns-then-not-item_fine-clause-value : goal.returns-then-not-item_fine-clause-value
returns-then-not-item_fine-clause-value c =
    simp (← c.byte_at-k.ensures.value, ← c.byte_at-r.ensures.value) (search (tests, calls) depth 16)

pub returns-clause-value : goal.returns-clause-value
returns-clause-value c = simp (← c.byte_at-k.ensures.value, ← c.byte_at-r.ensures.value) (search (tests, calls) depth 16)
