-- The computed rule and the relation say the same. Assumes nothing.
use mathlib.Core.Path.{◌≡◌}
use mathlib.Core.Bool.{Bool, true, false}
use Prim.Native.Nat.{ℕ}
use native.Mathlib.Omega.{arith}
use borrow.Author.Tests.{leb-true, leb-false, ltb-true, ltb-false, eqb-true, eqb-false}
use Rattle.base.specs.Tests.{pick}
use Rattle.lookups.specs.Rules.{OutcomesOf, WorksOut, LeadsInside}
use Rattle.lookups.specs.Computed.{WorksOutAll}
use Rattle.lookups.proofs.Rules.{of_pick, works}
use Rattle.ridge_rule.specs.Ridge.{ridge}
use Rattle.ridge_rule.specs.Computed.{rule_mask}
use Rattle.ridge_rule.proofs.Cases.{inverse, by_standby, by_relay, by_power, by_mode, by_lock, by_unlock, by_any, by_up, by_down, Else, all_else}

-- what a test says of the numbers
ruleset known = (arith, leb-true, leb-false, ltb-true, ltb-false, eqb-true, eqb-false)

-- the computed rule picks the set of its case
pub rule_mask_lem : WorksOutAll ridge rule_mask
unfolding rule_mask
rule_mask_lem s k =
    of_pick _ _ _
    (λ l. of_pick _ _ _ (λ o. by_standby s k (omega known) (omega known)) (λ n. some _ _ (λ o. by_relay s k (omega known) (omega known)) (λ m. omega known)))
    (λ n₃. of_pick _ _ _
    (λ l. some _ _ (λ o. by_power s k (omega known) (omega known)) (λ n. omega known))
    (λ n₇. of_pick _ _ _
    (λ l. some _ _ (λ o. by_mode s k (omega known) (omega known)) (λ n. omega known))
    (λ n₁₀. of_pick _ _ _
    (λ l. some _ _ (λ o. by_lock s k (omega known) (omega known)) (λ n. omega known))
    (λ n₁₁. of_pick _ _ _
    (λ l. some _ _ (λ o. by_unlock s k (omega known) (omega known)) (λ n. omega known))
    (λ n₁₂. of_pick _ _ _
    (λ l. some _ _ (λ o. by_any s k (omega known) (omega known)) (λ n. omega known))
    (λ n₁₃. of_pick _ _ _
    (λ l. some _ _ (λ o. some _ _ (λ r. by_up s k (omega known) (omega known)) (λ n. omega known)) (λ n. omega known))
    (λ n₁₄. of_pick _ _ _
    (λ l. some _ _ (λ o. some _ _ (λ r. by_down s k (omega known) (omega known)) (λ n. omega known)) (λ n. omega known))
    (λ n₁₅. all_else s k (omega known)))))))))
  where
    some : (b : Bool) (x : ℕ) → (b ≡ true → OutcomesOf ridge s k x) → (b ≡ false → Else s k) → OutcomesOf ridge s k (pick b x 0)
    some b x f n = of_pick b x 0 f (λ e. all_else s k (n e))

pub works_out : WorksOut ridge rule_mask
works_out = works rule_mask_lem

-- every outcome is a state
pub leads_inside : LeadsInside ridge
leads_inside s k t r = omega (arith, (inverse r).inside)
