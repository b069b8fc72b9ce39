-- Loops over the states of a set below n that take the lowest off each time, as the code has them. Assumes nothing.
use mathlib.Core.Path.{◌≡◌, refl, sym, ap, ◌∙◌}
use mathlib.Core.Bool.{Bool, true, false, not, false≢true}
use mathlib.Core.Logic.{⊎_elim}
use mathlib.Core.List.{foldl}
use Prim.Native.Nat.{ℕ, zero, suc, ◌+◌, ◌-◌, ◌*◌, ◌/◌, ◌%◌, ◌^◌, ◌≤◌, ◌<◌}
use native.Mathlib.Nat.{lt_of_lt_of_le, mod-eq_of_lt}
use native.Mathlib.Omega.{arith}
use native.Mathlib.Decide.{dec_lt}
use borrow.Author.Tests.{not-false, eqb-true}
use lib.Bits.{bit_and, and_step, and_self, and_mask, and_le_r}
use lib.Dec.{eqb, eqb→eq}
use lib.Pow.{field, mod-mod-pow, pow_mono}
use Rattle.base.specs.Sets.{In}
use Rattle.base.specs.Tests.{pick}
use Rattle.base.specs.Cardinality.{member, present}
use Rattle.base.specs.Masks.{lowest_in, without}
use Rattle.base.proofs.Tests.{T_true, true_t, eq_t, test_same}
use Rattle.base.proofs.Masks.{not-member, half_member, member_in, in_member, in_zero, in_or_not, in_le, one_in, below_clear, shl_one}
use Rattle.base.proofs.Present.{present-same}
use Rattle.base.proofs.Trailing.{lowest-there, none-lower, lowest-is}
use Rattle.base.proofs.Visiting.{gathered, Visiting, visit_next, visit_end}

none_in : (w s : ℕ) → w ≡ 0 → In w s → ⊥
none_in w s z h = in_zero s (rw z at h)

-- ---- w & (w - 1): w without its lowest state
lowest_bit : (s w : ℕ) → In w s → ((t : ℕ) → t < s → member w t ≡ false) → bit_and w (w - 1) ≡ w - 2 ^ s
lowest_bit zero w h f =
    let e : (w - 1) / 2 ≡ w / 2 = omega arith in
    omega (arith, and_step w (w - 1), ap (bit_and (w / 2)) e ∙ and_self (w / 2))
lowest_bit (suc s) w h f =
    let even : w % 2 ≡ 0 = ⊎_elim
    (λ (q : In w 0). absurd (false≢true (sym (f 0 (omega arith)) ∙ T_true (member w 0) (in_member w 0 q))))
    (λ (q : w / 2 ^ 0 % 2 ≡ 0). omega arith) (in_or_not w 0) in
    let half : In (w / 2) s = member_in (w / 2) s (rw (half_member w s) at (in_member w (suc s) h)) in
    let some : w / 2 ≡ 0 → ⊥ = λ z. none_in (w / 2) s z half in
    let e : (w - 1) / 2 ≡ w / 2 - 1 = omega arith in
    let ih = lowest_bit s (w / 2) half (λ t l. sym (half_member w t) ∙ f (suc t) (omega arith)) in
    omega (arith, and_step w (w - 1), ap (bit_and (w / 2)) e ∙ ih)

-- the empty set stays
pub lowest-none : (w : ℕ) → w ≡ 0 → w ≡ without w (lowest_in w)
unfolding without pick
lowest-none w z = rw (not-member w (lowest_in w) (none_in w (lowest_in w) z))

pub lowest_off : (w : ℕ) → (w ≡ 0 → ⊥) → w < 2 ^ 64 → bit_and w (w - 1) ≡ without w (lowest_in w)
unfolding without pick
lowest_off w f l =
    let s = (lowest-is w f l).there in
    lowest_bit (lowest_in w) w s (none-lower w) ∙ rw (T_true (member w (lowest_in w)) (in_member w (lowest_in w) s))

-- w has the state s: it has no other where none is left without the lowest
pub alone_lowest : (w s : ℕ) → w < 2 ^ 64 → member w s ≡ true → eqb (without w (lowest_in w)) 0 ≡ eqb w (2 ^ s)
alone_lowest w s word t =
    let h : In w s = member_in w s (true_t (member w s) t) in
    let some : w ≡ 0 → ⊥ = λ z. none_in w s z h in
    let low = (lowest-is w some word).there in
    let e : without w (lowest_in w) ≡ w - 2 ^ lowest_in w = sym (lowest_off w some word) ∙ lowest_bit (lowest_in w) w low (none-lower w) in
    let one : (p : ℕ) → w ≡ 2 ^ p → In w p → (q : ℕ) → In w q → q ≡ p = λ p f g q k. one_in p q (rw f at k) in
    test_same (eqb (without w (lowest_in w)) 0) (eqb w (2 ^ s))
    (λ z.
    let f : w ≡ 2 ^ lowest_in w = omega (arith, e, eqb→eq (without w (lowest_in w)) 0 z, in_le w (lowest_in w) low) in
    eq_t {x = w} {y = 2 ^ s} (f ∙ ap (λ (p : ℕ). 2 ^ p) (sym (one (lowest_in w) f low s h))))
    (λ z.
    let f : w ≡ 2 ^ s = eqb→eq w (2 ^ s) z in
    eq_t {x = without w (lowest_in w)} {y = 0} (e ∙ omega (arith, f, ap (λ (p : ℕ). 2 ^ p) (one s f h (lowest_in w) low))))

-- ---- w & ((1 << n) - 1): its states below n
pub low_bits : (n w : ℕ) → n < 64 → bit_and w (1 * 2 ^ n % 2 ^ 64 - 1) ≡ w % 2 ^ n
low_bits n w l = rw (shl_one n l) (and_mask w n)

pub low-all : (n w : ℕ) → 64 ≤ n → w < 2 ^ 64 → w ≡ w % 2 ^ n
low-all n w l h = sym (mod-eq_of_lt (lt_of_lt_of_le h (pow_mono l)))

pub member-low : (n w s : ℕ) → s < n → member (w % 2 ^ n) s ≡ member w s
unfolding member
member-low n w s l =
    let j = n - suc s in
    let e : j + 1 + s ≡ n = omega arith in
    let b : w % 2 ^ n / 2 ^ s % 2 ≡ w / 2 ^ s % 2 = rw (← e, field w (j + 1) s) (mod-mod-pow (w / 2 ^ s) j 1) in
    ap (λ (x : ℕ). eqb x 1) b

-- ---- the test that ends the loop
pub none_left : {r : Bool} {w : ℕ} → r ≡ eqb w 0 → not r ≡ false → w ≡ 0
none_left {r} e t = eqb-true _ 0 (sym e ∙ not-false r t)

-- ---- the lowest of what is left
module _ (n rest : ℕ) (few : n ≤ 64) where
  module _ (low : rest < 2 ^ n) (some : rest ≡ 0 → ⊥) where
    word : rest < 2 ^ 64
    word = lt_of_lt_of_le low (pow_mono few)

    pub lowest-low : lowest_in rest < n
    lowest-low = below_clear n rest low (lowest_in rest) (lowest-is rest some word).there

    pub left_less : (rest' : ℕ) → rest' ≡ without rest (lowest_in rest) → rest' < rest
    left_less rest' g = omega (arith, and_le_r rest (rest - 1), lowest_off rest some word)

  pub none-low : rest ≡ 0 → n ≤ lowest_in rest
  none-low z = go (dec_lt (lowest_in rest) n)
    where
      go : Dec (lowest_in rest < n) → n ≤ lowest_in rest
      go (yes l) = absurd (none_in rest (lowest_in rest) z (lowest-there rest (omega arith)))
      go (no f) = omega arith

-- ---- the loops
pub present-low : (n w : ℕ) → present n (w % 2 ^ n) ≡ present n w
present-low n w = present-same n (w % 2 ^ n) w (member-low n w)

module _ {A : Type 0} (step : A → ℕ → A) (n : ℕ) where
  -- the states from n on are not visited
  pub low_same : (a : A) (w : ℕ) → gathered step n a (w % 2 ^ n) ≡ gathered step n a w
  low_same a w = ap (foldl step a) (present-low n w)

  -- what is left lies below n, and with its visits a becomes the whole
  pub record Left (whole a : A) (rest : ℕ) : Type 0 where
    pub low : rest < 2 ^ n
    pub gives : gathered step n a rest ≡ whole

  module _ (whole a : A) (rest : ℕ) (v : Left whole a rest) (few : n ≤ 64) where
    visiting : Visiting step n whole a rest (lowest_in rest)
    visiting = record { lowest = refl; gives = v.gives }

    pub left-next : (rest ≡ 0 → ⊥) → (s rest' : ℕ) → s ≡ lowest_in rest → rest' ≡ without rest (lowest_in rest) → Left whole (step a s) rest'
    left-next f s rest' e g =
        record {
          low = omega (arith, v.low, left_less n rest few v.low f rest' g);
          gives =
              rw e (visit_next step n whole a rest (lowest_in rest) visiting few rest' (lowest_in rest') (lowest-low n rest few v.low f) g refl).gives;
        }

    pub left-none : rest ≡ 0 → a ≡ whole
    left-none z = visit_end step n whole a rest (lowest_in rest) visiting (none-low n rest few z)
