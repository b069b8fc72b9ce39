-- A number in decimal: the fewest digits that hold it, which `io::decimal` makes, are those of the definition. Assumes nothing.
use mathlib.Core.Path.{◌≡◌, ap}
use mathlib.Core.List.{[], ◌∷◌}
use Prim.Native.Nat.{ℕ, zero, suc, ◌+◌, ◌-◌, ◌*◌, ◌/◌, ◌%◌, ◌^◌, ◌≤◌, ◌<◌}
use native.Mathlib.Nat.{pow-suc, one-le-pow}
use native.Mathlib.Decide.{dec_lt}
use native.Mathlib.Omega.{arith}
use lib.Pow.{pow-add}
use borrow.Author.Tests.{lt-ltb}
use Rattle.base.proofs.Picks.{less_yes, less_no}
use Rattle.io.specs.Digits.{last_digits, hex_digit_ascii, IsDigitCount}
use Rattle.show.specs.Show.{digit, decimal_in, decimal}

glyph_is : (d : ℕ) → d < 10 → hex_digit_ascii d ≡ digit d
glyph_is d h = simp (lt-ltb d 10 h)

digits_are : (k f n : ℕ) → IsDigitCount 10 1 n k → k ≤ f → last_digits 10 k n ≡ decimal_in f n
unfolding decimal_in
digits_are zero f n h l = absurd (omega (arith, h.0))
digits_are (suc k) zero n h l = absurd (omega arith)
digits_are (suc zero) (suc f) n h l =
    let s : n < 10 = omega (arith, h.1, pow-suc 10 0) in
    let e : n % 10 ≡ n = omega arith in
    less_yes _ _ _ n 10 s (rw e (ap (λ (d : ℕ). d ∷ []) (glyph_is n s)))
digits_are (suc (suc k)) (suc f) n h l =
    let pred : (m : ℕ) → suc m - 1 ≡ m = λ m. omega arith in
    let low : 10 ^ k * 10 ≤ n = rw (pred (suc k), pow-suc) at (h.2 (omega arith)) in
    let high : n < 10 ^ suc k * 10 = rw pow-suc at h.1 in
    let big : 10 ≤ n = omega (arith, one-le-pow k 10 (omega arith)) in
    let tenth : IsDigitCount 10 1 (n / 10) (suc k) = (omega arith, omega arith, λ _. rw pred (omega arith)) in
    less_no _ _ _ n 10 big (rw (digits_are (suc k) f (n / 10) tenth (omega arith), glyph_is (n % 10) (omega arith)))

-- a number of 64 bits has at most 20 digits
pub few : (k n : ℕ) → IsDigitCount 10 1 n k → n < 2 ^ 64 → k ≤ 20
few k n h l = go (dec_lt 20 k)
  where
    go : Dec (20 < k) → k ≤ 20
    go (no g) = omega arith
    go (yes g) =
        let e : k - 1 ≡ 20 + (k - 21) = omega arith in
        let low : 10 ^ 20 * 10 ^ (k - 21) ≤ n = rw (e, pow-add 10 20 (k - 21)) at (h.2 (omega arith)) in
        absurd (omega (arith, one-le-pow (k - 21) 10 (omega arith)))

pub decimal-is : (k n : ℕ) → IsDigitCount 10 1 n k → n < 2 ^ 64 → last_digits 10 k n ≡ decimal n
unfolding decimal
decimal-is k n h l = digits_are k 20 n h (few k n h l)
