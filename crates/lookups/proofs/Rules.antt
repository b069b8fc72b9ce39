-- The sets of which a rule's masks are made: one state, two, several, none; and a set picked by a test. A rule has one mask at each state and
-- command. Assumes nothing.
use mathlib.Core.Path.{◌≡◌, subst⁻¹}
use mathlib.Core.Bool.{Bool, true, false}
use mathlib.Core.Logic.{◌⊎◌, inl, inr}
use Prim.Native.Nat.{ℕ, ◌^◌, ◌<◌}
use lib.Bits.{bit_or}
use Rattle.base.specs.Sets.{In}
use Rattle.base.specs.Tests.{pick}
use Rattle.base.specs.Bounded.{union}
use Rattle.base.proofs.Picks.{pick_elim}
use Rattle.base.proofs.Masks.{in_zero, in_one, one_in, or_in, in_or_l, in_or_r, union_in, in_union, ext_in}
use Rattle.lookups.specs.Rules.{DeviceRule, OutcomesOf, WorksOut}
use Rattle.lookups.specs.Computed.{WorksOutAll}

module _ {d : DeviceRule} {s k : ℕ} where
  pub of_one : (x : ℕ) → ((t : ℕ) → t ≡ x → d.Leads s k t) → ((t : ℕ) → d.Leads s k t → t ≡ x) → OutcomesOf d s k (2 ^ x)
  of_one x f g = record { states = λ t. (λ h. f t (one_in x t h), λ r. subst⁻¹ (In (2 ^ x)) (g t r) (in_one x)) }

  pub of_two : (x y : ℕ) → ((t : ℕ) → (t ≡ x) ⊎ (t ≡ y) → d.Leads s k t) → ((t : ℕ) → d.Leads s k t → (t ≡ x) ⊎ (t ≡ y))
      → OutcomesOf d s k (bit_or (2 ^ x) (2 ^ y))
  of_two x y f g = record { states = λ t. (λ h. f t (which t (or_in (2 ^ x) (2 ^ y) t h)), λ r. back t (g t r)) }
    where
      which : (t : ℕ) → In (2 ^ x) t ⊎ In (2 ^ y) t → (t ≡ x) ⊎ (t ≡ y)
      which t (inl h) = inl (one_in x t h)
      which t (inr h) = inr (one_in y t h)

      back : (t : ℕ) → (t ≡ x) ⊎ (t ≡ y) → In (bit_or (2 ^ x) (2 ^ y)) t
      back t (inl e) = in_or_l (2 ^ x) (2 ^ y) t (subst⁻¹ (In (2 ^ x)) e (in_one x))
      back t (inr e) = in_or_r (2 ^ x) (2 ^ y) t (subst⁻¹ (In (2 ^ y)) e (in_one y))

  pub of_union : (x : ℕ → ℕ) (c : ℕ) → ((t i : ℕ) → i < c → t ≡ x i → d.Leads s k t) → ((t : ℕ) → d.Leads s k t → (i : ℕ) × (i < c) × (t ≡ x i))
      → OutcomesOf d s k (union (λ i. 2 ^ x i) c)
  of_union x c f g = record { states = λ t. (there t, λ r. back t (g t r)) }
    where
      there : (t : ℕ) → In (union (λ i. 2 ^ x i) c) t → d.Leads s k t
      there t h =
          let (i, l, o) = union_in (λ i. 2 ^ x i) c t h in
          f t i l (one_in (x i) t o)

      back : (t : ℕ) → (i : ℕ) × (i < c) × (t ≡ x i) → In (union (λ i. 2 ^ x i) c) t
      back t (i, l, e) = in_union (λ i. 2 ^ x i) c t i l (subst⁻¹ (In (2 ^ x i)) e (in_one (x i)))

  pub of_none : ((t : ℕ) → d.Leads s k t → ⊥) → OutcomesOf d s k 0
  of_none n = record { states = λ t. (λ h. absurd (in_zero t h), λ r. absurd (n t r)) }

  pub of_pick : (b : Bool) (v w : ℕ) → (b ≡ true → OutcomesOf d s k v) → (b ≡ false → OutcomesOf d s k w) → OutcomesOf d s k (pick b v w)
  of_pick b v w f g = pick_elim (OutcomesOf d s k) b v w f g

  pub one-mask : {v w : ℕ} → OutcomesOf d s k v → OutcomesOf d s k w → v ≡ w
  one-mask {v} {w} a b = ext_in v w (λ t h. (b.states t).1 ((a.states t).0 h)) (λ t h. (a.states t).1 ((b.states t).0 h))

pub works : {d : DeviceRule} {f : ℕ → ℕ → ℕ} → WorksOutAll d f → WorksOut d f
works all s k hs hk = all s k
