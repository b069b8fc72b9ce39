-- The mask of the commands, or of the starts, that pass a test, made one by one; a fold that has failed. Assumes nothing.
use mathlib.Core.Path.{◌≡◌, refl, sym, ap, ◌∙◌, subst}
use mathlib.Core.Bool.{Bool, true, false}
use mathlib.Core.Logic.{⊎_elim}
use mathlib.Core.List.{List, [], ◌∷◌, foldl}
use Prim.Native.Nat.{ℕ, zero, suc, ◌-◌, ◌/◌, ◌%◌, ◌^◌, ◌<◌}
use native.Mathlib.Nat.{le_of_suc-le-suc, eq-or-lt_of_le, not-suc-le-zero, pow-suc}
use native.Mathlib.Omega.{arith}
use lib.Bits.{bit_and, bit_or}
use lib.Dec.{T}
use lib.Pow.{pow_pos}
use Rattle.base.specs.Sets.{In}
use Rattle.base.specs.Tests.{both}
use Rattle.base.specs.Cardinality.{member}
use Rattle.base.proofs.Tests.{both_l, both_r, both_of, test_same}
use Rattle.base.proofs.Masks.{member_in, in_member, not-member, in_zero, one_in, or_in, and_in, in_and, half_member}
use Rattle.base.proofs.Added.{one_more_member, one_more_other}
use Rattle.base.proofs.Visiting.{all_so_far}
use Rattle.finder.specs.Contract.{Passing}

-- ---- the mask
pub passing_same : {m : ℕ} {f g : ℕ → Bool} {w : ℕ} → Passing m f w → ((c : ℕ) → c < m → f c ≡ g c) → Passing m g w
passing_same p e = record { low = p.low; each = λ c l. p.each c l ∙ e c l }

pub none_pass : (m : ℕ) {f : ℕ → Bool} → ((c : ℕ) → c < m → f c ≡ false) → Passing m f 0
none_pass m e = record { low = λ s h. absurd (in_zero s h); each = λ c l. not-member 0 c (in_zero c) ∙ sym (e c l) }

pub either_not : (a : Bool) {b : Bool} → b ≡ false → both a b ≡ false
unfolding both
either_not true e = e
either_not false e = refl

-- one command more
module _ (f : ℕ → Bool) (c w : ℕ) (p : Passing c f w) where
  pub mark_yes : f c ≡ true → Passing (suc c) f (bit_or w (2 ^ c))
  mark_yes t =
      record {
        low = λ s h. ⊎_elim (λ (i : In w s). omega (arith, p.low s i)) (λ (i : In (2 ^ c) s). omega (arith, one_in c s i)) (or_in w (2 ^ c) s h);
        each = λ b l. ⊎_elim (λ (e : b ≡ c). rw e (one_more_member w c ∙ sym t))
            (λ (h : b < c). one_more_other w c b (λ e. omega (arith, h, e)) ∙ p.each b h) (eq-or-lt_of_le (le_of_suc-le-suc l));
      }

  pub mark_no : f c ≡ false → Passing (suc c) f w
  mark_no t =
      record {
        low = λ s h. omega (arith, p.low s h);
        each = λ b l. ⊎_elim (λ (e : b ≡ c). rw e (not-member w c (λ h. omega (arith, p.low c h)) ∙ sym t)) (λ (h : b < c). p.each b h)
            (eq-or-lt_of_le (le_of_suc-le-suc l));
      }

-- those of a mask that pass
pub pass_of : (m commands w : ℕ) {f : ℕ → Bool} → Passing m f w → Passing m (λ c. both (member commands c) (f c)) (bit_and commands w)
pass_of m commands w {f} p =
    record {
      low = λ s h. p.low s (and_in commands w s h).1;
      each = λ c l. test_same (member (bit_and commands w) c) (both (member commands c) (f c))
          (λ t. let (i, j) = and_in commands w c (member_in (bit_and commands w) c t) in
          both_of (member commands c) (f c) (in_member commands c i) (subst T (p.each c l) (in_member w c j)))
          (λ t. in_member (bit_and commands w) c (in_and commands w c (member_in commands c (both_l (member commands c) (f c) t))
          (member_in w c (subst T (sym (p.each c l)) (both_r (member commands c) (f c) t)))));
    }

-- all commands
pub all-commands : (m c : ℕ) → c < m → member (2 ^ m - 1) c ≡ true
unfolding member
all-commands zero c l = absurd (not-suc-le-zero l)
all-commands (suc m) zero l = let e : (2 ^ suc m - 1) / 2 ^ 0 % 2 ≡ 1 = omega (arith, pow-suc 2 m, pow_pos m) in rw e
all-commands (suc m) (suc c) l =
    let e : (2 ^ suc m - 1) / 2 ≡ 2 ^ m - 1 = omega (arith, pow-suc 2 m, pow_pos m) in
    half_member (2 ^ suc m - 1) c ∙ ap (λ (w : ℕ). member w c) e ∙ all-commands m c (le_of_suc-le-suc l)

-- ---- after one that fails
pub fails_on : (g : ℕ → Bool) (xs : List ℕ) → foldl (all_so_far g) false xs ≡ false
unfolding both
fails_on g [] = refl
fails_on g (x ∷ xs) = fails_on g xs
