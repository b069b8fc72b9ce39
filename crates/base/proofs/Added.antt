-- A set with one state more, and the number of its states below a limit. Assumes nothing.
use mathlib.Core.Path.{◌≡◌, refl, sym, ap, ◌∙◌}
use mathlib.Core.Bool.{true, false}
use mathlib.Core.Logic.{⊎_elim}
use Prim.Native.Nat.{ℕ, zero, suc, ◌+◌, ◌-◌, ◌*◌, ◌/◌, ◌%◌, ◌^◌, ◌≤◌, ◌<◌}
use native.Mathlib.Nat.{eq-or-lt_of_le, le_of_suc-le-suc}
use native.Mathlib.Numerals.{add-one}
use native.Mathlib.Omega.{arith}
use lib.Bits.{bit_or, bit_and, and_mask}
use lib.Count.{ones, ones_step}
use lib.ListN.{length}
use lib.Pow.{field, mod-mod-pow}
use Rattle.base.specs.Sets.{In}
use Rattle.base.specs.Tests.{pick}
use Rattle.base.specs.Cardinality.{member, present, cardinality}
use Rattle.base.proofs.Tests.{T_true, test_same}
use Rattle.base.proofs.Masks.{not-member, member_in, in_member, in_zero, in_one, one_in, in_or_l, in_or_r, or_in, some-state, shl_one}
use Rattle.base.proofs.Present.{present-same, cardinality-suc, half_cardinality}

-- ---- a set without states
pub none-zero : (w : ℕ) → ((s : ℕ) → In w s → ⊥) → w ≡ 0
none-zero zero f = refl
none-zero (suc w) f = let (s, q) = some-state (suc w) (omega arith) in absurd (f s q)

-- ---- the number of states below a limit

-- it is the number of digits below the limit that are 1
cardinality-low : (n w : ℕ) → cardinality n w ≡ ones (w % 2 ^ n)
unfolding present ones
cardinality-low zero w = let z : w % 2 ^ 0 ≡ 0 = omega arith in rw z
cardinality-low (suc n) w =
    let half : w % 2 ^ suc n / 2 ≡ w / 2 % 2 ^ n = rw (← add-one n) (field w n 1) in
    let digit : w % 2 ^ suc n % 2 ≡ w % 2 = rw (← add-one n) (mod-mod-pow w n 1) in
    half_cardinality n w ∙ ap (λ (x : ℕ). w % 2 + x) (cardinality-low n (w / 2)) ∙ sym (ones_step (w % 2 ^ suc n) ∙ rw (half, digit))

-- as the code has it: w & ((1 << n) - 1)
pub ones_below : (n w : ℕ) → n < 64 → ones (bit_and w (1 * 2 ^ n % 2 ^ 64 - 1)) ≡ cardinality n w
ones_below n w l = rw (shl_one n l, and_mask w n) (sym (cardinality-low n w))

-- where all states of w are below s, a higher limit leaves none out and takes none in
pub cardinality-above : (w s k : ℕ) → ((i : ℕ) → In w i → i < s) → s ≤ k → cardinality k w ≡ cardinality s w
unfolding pick
cardinality-above w s zero f l = let z : s ≡ 0 = omega arith in rw z
cardinality-above w s (suc k) f l =
    ⊎_elim (λ (e : s ≡ suc k). rw e)
    (λ (h : s < suc k).
    let b : s ≤ k = le_of_suc-le-suc h in
    let out : member w k ≡ false = not-member w k (λ q. omega (arith, f k q)) in
    let e : cardinality (suc k) w ≡ cardinality k w = cardinality-suc k w ∙ rw out (omega arith) in
    e ∙ cardinality-above w s k f b) (eq-or-lt_of_le l)

pub cardinality-zero : (n : ℕ) → cardinality n 0 ≡ 0
unfolding present
cardinality-zero n = cardinality-above 0 0 n (λ i q. absurd (in_zero i q)) (omega arith)

-- ---- w with the state s
module _ (w s : ℕ) where
  pub one_more_in : In (bit_or w (2 ^ s)) s
  one_more_in = in_or_r w (2 ^ s) s (in_one s)

  pub one_more_member : member (bit_or w (2 ^ s)) s ≡ true
  one_more_member = T_true _ (in_member (bit_or w (2 ^ s)) s one_more_in)

  pub one_more_other : (i : ℕ) → (i ≡ s → ⊥) → member (bit_or w (2 ^ s)) i ≡ member w i
  one_more_other i f =
      test_same _ _
      (λ t. in_member w i (⊎_elim (λ (q : In w i). q) (λ (q : In (2 ^ s) i). absurd (f (one_in s i q))) (or_in w (2 ^ s) i (member_in _ i t))))
      (λ t. in_member _ i (in_or_l w (2 ^ s) i (member_in w i t)))

  -- below s there are as many
  pub one_more_below : (k : ℕ) → k ≤ s → cardinality k (bit_or w (2 ^ s)) ≡ cardinality k w
  one_more_below k l = ap length (present-same k (bit_or w (2 ^ s)) w (λ i h. one_more_other i (λ e. omega arith)))

  -- above s there is one more, where w has none from s on
  pub one_more_above : (k : ℕ) → ((i : ℕ) → In w i → i < s) → s < k → cardinality k (bit_or w (2 ^ s)) ≡ suc (cardinality s w)
  unfolding pick
  one_more_above k f l =
      let below : (i : ℕ) → In (bit_or w (2 ^ s)) i → i < suc s
      = λ i q. ⊎_elim (λ (h : In w i). omega (arith, f i h)) (λ (h : In (2 ^ s) i). omega (arith, one_in s i h)) (or_in w (2 ^ s) i q) in
      let one : cardinality (suc s) (bit_or w (2 ^ s)) ≡ cardinality s (bit_or w (2 ^ s)) + 1 = cardinality-suc s (bit_or w (2 ^ s)) ∙ rw one_more_member in
      cardinality-above (bit_or w (2 ^ s)) (suc s) k below l ∙ (one ∙ omega (arith, one_more_below s (omega arith)))
