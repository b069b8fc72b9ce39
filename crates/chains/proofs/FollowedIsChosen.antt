-- Following the items that the numbers name is the chosen chain, for any links; its plan and legs are those of the items. Assumes nothing.
use mathlib.Core.Path.{◌≡◌, refl, sym, ap, ap₂, ◌∙◌, subst}
use mathlib.Core.List.{List, [], ◌∷◌, ◌++◌}
use Prim.Native.Nat.{ℕ, zero, suc, ◌-◌, ◌≤◌, ◌<◌}
use native.Mathlib.Omega.{arith}
use lib.Dec.{T}
use lib.ListN.{length, get_or}
use Rattle.base.specs.Lists.{Each}
use Rattle.base.specs.Bounded.{seek}
use Rattle.reversal.specs.Reversal.{Item}
use Rattle.reversal.specs.Chains.{lower, plan_of, legs_of}
use Rattle.reversal.specs.Computed.Least.{Links, Linked, total, least_at, begins, chosen}
use Rattle.reversal.proofs.Shortest.{chosen_linked, least-chain}
use Rattle.points.specs.Items.{Items, k_of, ItemsOf}
use Rattle.points.specs.Links.{Numbered}
use Rattle.chains.specs.ChainFollowed.{followed, Steps, plan_in, leg_bytes, legs_in}
use Rattle.chains.specs.Legs.{legs_bytes}

module _ (R : Links) (sound : (a j : ℕ) → a < R.count → T (R.fit a j) → (0 < R.k a) × (R.k a ≤ j))
    (F : Items) (k : (a : ℕ) → a < R.count → k_of F a ≡ R.k a) {i : ℕ} {fewest firsts : List ℕ} (num : Numbered R i fewest firsts) where
  pub followed-chosen : (f j : ℕ) → j ≤ f → j ≤ i → least_at R j < R.top → (followed F firsts f j ≡ chosen R f j) × Steps F firsts f j
  unfolding followed Steps chosen
  followed-chosen zero zero l b h = (refl, refl)
  followed-chosen zero (suc j) l b h = absurd (omega arith)
  followed-chosen (suc f) zero l b h = (refl, tt)
  followed-chosen (suc f) (suc j) l b h =
      let rest = followed-chosen f (suc j - R.k a) (omega (arith, fit)) (omega (arith, fit)) least in (
        ap₂ ◌∷◌ e (ap (followed F firsts f) low ∙ rest.0),
        (omega (arith, down, fit), omega (arith, down, fit), subst (Steps F firsts f) (sym low) rest.1),
      )
    where
      a : ℕ
      a = seek (begins R (suc j)) 0 R.count

      e : get_or firsts (suc j) 0 ≡ a
      e = num.first (suc j) (omega arith) b h

      linked : Linked R (suc j) (a ∷ chosen R f (suc j - R.k a)) × (total R (a ∷ chosen R f (suc j - R.k a)) ≡ least_at R (suc j))
      linked = chosen_linked R sound (suc f) (suc j) l h

      fit : (0 < R.k a) × (R.k a ≤ suc j)
      fit = sound a (suc j) linked.0.0 linked.0.1

      down : k_of F (get_or firsts (suc j) 0) ≡ R.k a
      down = ap (k_of F) e ∙ k a linked.0.0

      low : suc j - k_of F (get_or firsts (suc j) 0) ≡ suc j - R.k a
      low = ap (λ (x : ℕ). suc j - x) down

      least : least_at R (suc j - R.k a) < R.top
      least = omega (arith, linked.1, least-chain R sound (chosen R f (suc j - R.k a)) (suc j - R.k a) linked.0.2)

-- the items of a chain are the links'
pub linked_known : (R : Links) (xs : List ℕ) (j : ℕ) → Linked R j xs → Each (λ a. a < R.count) xs
linked_known R [] j c = tt
linked_known R (a ∷ xs) j c = (c.0, linked_known R xs (j - R.k a) c.2)

-- ---- what is written is the chain's
module _ (items : List Item) (F : Items) (fields : ItemsOf items F) where
  pub plan-same : (xs : List ℕ) → Each (λ a. a < length items) xs → plan_in F xs ≡ plan_of items xs
  unfolding plan_in
  plan-same [] c = refl
  plan-same (a ∷ xs) c = ap₂ ◌++◌ (ap (λ (x : Item). x.reverse) (fields a c.0)) (plan-same xs c.1)

  pub legs-same : (xs : List ℕ) (j : ℕ) → Each (λ a. a < length items) xs → legs_in F j xs ≡ legs_bytes (legs_of items j xs)
  unfolding legs_in legs_bytes
  legs-same [] j c = refl
  legs-same (a ∷ xs) j c =
      ap (λ (x : Item). leg_bytes a j (j - length x.forward) ++ legs_in F (j - length x.forward) xs) (fields a c.0)
      ∙ ap (λ (t : List ℕ). leg_bytes a j (lower items j a) ++ t) (legs-same xs (lower items j a) c.1)
