-- The computed rule and the relation say the same. Assumes nothing.
use mathlib.Core.Logic.{inl, inr}
use native.Mathlib.Omega.{arith}
use borrow.Author.Tests.{leb-true, leb-false, eqb-true, eqb-false}
use Rattle.lookups.specs.Rules.{WorksOut, LeadsInside}
use Rattle.lookups.specs.Computed.{WorksOutAll}
use Rattle.lookups.proofs.Rules.{of_pick, works}
use Rattle.portable_rule.specs.Portable.{portable}
use Rattle.portable_rule.specs.Computed.{rule_mask}
use Rattle.portable_rule.proofs.Cases.{inverse, by_standby, by_relay, by_power, by_set_relay, by_set_standby, by_none}

-- what a test says of the numbers
ruleset known = (arith, leb-true, leb-false, eqb-true, eqb-false)

-- the computed rule picks the set of its case
pub rule_mask_lem : WorksOutAll portable rule_mask
unfolding rule_mask
rule_mask_lem s k =
    of_pick _ _ _
    (λ m. of_pick _ _ _
    (λ l. of_pick _ _ _ (λ o. by_standby s k (omega known) (omega known)) (λ o. by_relay s k (omega known) (omega known)))
    (λ n₇. of_pick _ _ _
    (λ l. by_power s k (omega known) (omega known))
    (λ n₉. of_pick _ _ _
    (λ l. by_set_relay s k (omega known) (omega known))
    (λ n₁₀. of_pick _ _ _
    (λ l. by_set_standby s k (omega known) (omega known))
    (λ n₁₁. by_none s k (inr (omega known)))))))
    (λ m. by_none s k (inl (omega known)))

pub works_out : WorksOut portable rule_mask
works_out = works rule_mask_lem

-- every outcome is a state
pub leads_inside : LeadsInside portable
leads_inside s k t r = omega (arith, (inverse r).inside)
