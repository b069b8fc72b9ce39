-- The lowest state of a set, and that counting trailing zeros gives it. Assumes nothing.
use mathlib.Core.Path.{◌≡◌, refl, sym, ap, ◌∙◌}
use mathlib.Core.Bool.{Bool, true, false, true≢false}
use Prim.Native.Nat.{ℕ, zero, suc, ◌/◌, ◌%◌, ◌^◌, ◌≤◌, ◌<◌}
use native.Mathlib.Omega.{arith}
use lib.Count.{count_trailing_zeros, under, trailing_le}
use lib.Dec.{eqb}
use Rattle.base.specs.Sets.{In}
use Rattle.base.specs.Tests.{pick}
use Rattle.base.specs.Bounded.{seek}
use Rattle.base.specs.Cardinality.{member}
use Rattle.base.specs.Masks.{lowest_in}
use Rattle.base.specs.Present.{LowestState}
use Rattle.base.proofs.Tests.{T_true, true_t}
use Rattle.base.proofs.Bounded.{seek_hit, seek-low, seek-same, seek-suc}
use Rattle.base.proofs.Masks.{half_member, member_in, in_member, some-state, below_clear}

-- ---- the count of trailing zeros is the search upward
trailing_seek : (k w : ℕ) → count_trailing_zeros k w ≡ seek (member w) 0 k
unfolding count_trailing_zeros seek pick member
trailing_seek zero w = refl
trailing_seek (suc k) w = go (w % 2) refl (trailing_seek k (w / 2))
  where
    go : (b : ℕ) → w % 2 ≡ b → count_trailing_zeros k (w / 2) ≡ seek (member (w / 2)) 0 k
        → under b (count_trailing_zeros k (w / 2)) ≡ pick (eqb (w / 2 ^ 0 % 2) 1) 0 (seek (member w) 1 k)
    go zero e ih =
        let here : w / 2 ^ 0 % 2 ≡ 0 = omega arith in
        rw here (ap suc (ih ∙ seek-same (member (w / 2)) (λ s. member w (suc s)) k 0 (λ s l h. sym (half_member w s))) ∙ sym (seek-suc (member w) k 0))
    go (suc b) e ih = let here : w / 2 ^ 0 % 2 ≡ 1 = omega arith in rw here

-- as the code has it; 64 for the empty set
pub trailing_lowest : (w : ℕ) → count_trailing_zeros 64 w ≡ lowest_in w
unfolding lowest_in
trailing_lowest w = trailing_seek 64 w

lowest-le : (w : ℕ) → lowest_in w ≤ 64
lowest-le w = omega (arith, trailing_le 64 w, trailing_lowest w)

-- ---- the lowest state
module _ (w : ℕ) where
  pub lowest-there : lowest_in w < 64 → In w (lowest_in w)
  unfolding lowest_in
  lowest-there l = member_in w (lowest_in w) (seek_hit (member w) 64 0 (omega arith))

  pub none-lower : (t : ℕ) → t < lowest_in w → member w t ≡ false
  unfolding lowest_in
  none-lower t l = go (member w t) refl
    where
      go : (b : Bool) → member w t ≡ b → b ≡ false
      go true e = absurd (omega (arith, seek-low (member w) 64 0 t (omega arith) (omega (arith, lowest-le w)) (true_t (member w t) e)))
      go false e = refl

  lowest_word : (w ≡ 0 → ⊥) → w < 2 ^ 64 → lowest_in w < 64
  unfolding lowest_in
  lowest_word f l =
      let (s, q) = some-state w (omega arith) in
      let h : s < 64 = below_clear 64 w l s q in
      omega (arith, seek-low (member w) 64 0 s (omega arith) (omega arith) (in_member w s q))

  pub lowest-is : (w ≡ 0 → ⊥) → w < 2 ^ 64 → LowestState w (lowest_in w)
  lowest-is f l =
      record {
        there = lowest-there (lowest_word f l);
        first = λ t b q. true≢false (sym (T_true (member w t) (in_member w t q)) ∙ none-lower t b);
      }

-- the definition leaves one at most
pub lowest_unique : (w s t : ℕ) → LowestState w s → LowestState w t → s ≡ t
lowest_unique w s t f g =
    let a : s < t → ⊥ = λ l. g.first s l f.there in
    let b : t < s → ⊥ = λ l. f.first t l g.there in
    omega arith

-- 02: "found by counting trailing zeros, which is proved to give the lowest"
pub trailing_zeros_lowest : (w : ℕ) → (w ≡ 0 → ⊥) → w < 2 ^ 64 → LowestState w (count_trailing_zeros 64 w)
trailing_zeros_lowest w f l = rw (trailing_lowest w) (lowest-is w f l)
