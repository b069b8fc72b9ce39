-- each return is the first test that holds
use mathlib.Core.Path.{sym, ◌∙◌}
use native.Mathlib.Omega.{arith}
use Rattle.base.proofs.Picks.{tests, calls}
use Rattle.book.proofs.Limits.{device_on}
use Rattle.reader.proofs.steps.device_step.Goals as goal

pub returns-then-not-allows-clause-value : goal.returns-then-not-allows-clause-value
returns-then-not-allows-clause-value c = search (tests, calls) depth 6

pub returns-then-body-ne2-clause-value : goal.returns-then-body-ne2-clause-value
returns-then-body-ne2-clause-value c = search (tests, calls) depth 12

pub returns-then-not-device_fine-clause-value : goal.returns-then-not-device_fine-clause-value
returns-then-not-device_fine-clause-value c =
    simp (← c.byte_at-n.ensures.value, ← c.byte_at-m.ensures.value) (search (tests, calls) depth 16)

pub returns-clause-value : goal.returns-clause-value
returns-clause-value c = simp (← c.byte_at-n.ensures.value, ← c.byte_at-m.ensures.value) (search (tests, calls) depth 16)

pub returns-clause-bounded : goal.returns-clause-bounded
returns-clause-bounded c =
    let d = device_on _ _ (sym c.device_fine.ensures ∙ c.if-not-device_fine.false) in record { n_high = d.n_high; m_high = d.m_high; few = omega arith }
