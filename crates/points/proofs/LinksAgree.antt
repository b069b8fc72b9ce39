-- Rules that agree at the points 0 to i have the same numbers and the same first items there. Assumes nothing.
use mathlib.Core.Path.{◌≡◌, refl, ap, ap₂, ◌∙◌}
use mathlib.Core.List.{List, [], ◌∷◌, ◌++◌}
use Prim.Native.Nat.{ℕ, zero, suc, ◌+◌, ◌-◌, ◌≤◌, ◌<◌}
use native.Mathlib.Omega.{arith}
use lib.Dec.{eqb}
use lib.ListN.{get_or, replicate}
use Rattle.base.specs.Tests.{both}
use Rattle.base.specs.Bounded.{least, seek}
use Rattle.base.proofs.Bounded.{least-same, seek-same}
use Rattle.reversal.specs.Computed.Least.{Links, via, leasts, least_at, begins}
use Rattle.points.specs.Links.{Numbered}

pub record Agree (i : ℕ) (R Q : Links) : Type 0 where
  pub count_same : R.count ≡ Q.count
  pub top-same : R.top ≡ Q.top
  pub k-same : (a : ℕ) → a < Q.count → R.k a ≡ Q.k a
  pub price-same : (a : ℕ) → a < Q.count → R.price a ≡ Q.price a
  pub fit_same : (a j : ℕ) → a < Q.count → j ≤ i → R.fit a j ≡ Q.fit a j

module _ {i : ℕ} {R Q : Links} (g : Agree i R Q) where
  via-same : (ns : List ℕ) (j a : ℕ) → j ≤ i → a < Q.count → via R ns j a ≡ via Q ns j a
  unfolding via
  via-same ns j a b l = rw (g.fit_same a j l b, g.price-same a l, g.k-same a l, g.top-same)

  leasts-same : (j : ℕ) → j ≤ i → leasts R j ≡ leasts Q j
  unfolding leasts
  leasts-same zero b = refl
  leasts-same (suc j) b =
      ap₂ (λ (ns : List ℕ) (x : ℕ). ns ++ (x ∷ [])) (leasts-same j (omega arith))
      (ap (λ (ns : List ℕ). least R.top (via R ns (suc j)) R.count) (leasts-same j (omega arith))
      ∙ ap₂ (λ (t n : ℕ). least t (via R (leasts Q j) (suc j)) n) g.top-same g.count_same
      ∙ least-same Q.top (via R (leasts Q j) (suc j)) (via Q (leasts Q j) (suc j)) Q.count (λ a l. via-same (leasts Q j) (suc j) a b l))

  least_at_same : (j : ℕ) → j ≤ i → least_at R j ≡ least_at Q j
  unfolding least_at
  least_at_same j b = ap (λ (ns : List ℕ). get_or ns j 0) (leasts-same j b)

  begins-same : (j a : ℕ) → j ≤ i → a < Q.count → begins R j a ≡ begins Q j a
  unfolding begins
  begins-same j a b l =
      ap₂ both (g.fit_same a j l b)
      (ap₂ eqb (ap₂ ◌+◌ (g.price-same a l) (ap (λ (x : ℕ). least_at R (j - x)) (g.k-same a l) ∙ least_at_same (j - Q.k a) (omega arith))) (least_at_same j b))

  first-same : (j : ℕ) → j ≤ i → seek (begins R j) 0 R.count ≡ seek (begins Q j) 0 Q.count
  first-same j b =
      ap (seek (begins R j) 0) g.count_same ∙ seek-same (begins R j) (begins Q j) Q.count 0 (λ a u v. begins-same j a b (omega arith))

  pub numbered-same : {ns firsts : List ℕ} → Numbered R i ns firsts → Numbered Q i ns firsts
  numbered-same {ns} {firsts} n =
      record {
        low = n.low;
        fewest = n.fewest ∙ ap₂ (λ (l : List ℕ) (t : ℕ). l ++ replicate (32 - i) t) (leasts-same i (omega arith)) g.top-same;
        size = n.size;
        first = λ j a b h. n.first j a b (below j b h) ∙ first-same j b;
      }
    where
      below : (j : ℕ) → j ≤ i → least_at Q j < Q.top → least_at R j < R.top
      below j b h = rw (least_at_same j b, g.top-same) h
