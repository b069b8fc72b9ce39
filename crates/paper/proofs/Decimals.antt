-- A number in decimal: its digits, how many they are, and that they read back as the number. Assumes nothing.
use mathlib.Core.Path.{◌≡◌, ◌∙◌}
use mathlib.Core.List.{List, [], ◌∷◌, ◌++◌}
use Prim.Native.Nat.{ℕ, zero, suc, ◌+◌, ◌-◌, ◌*◌, ◌/◌, ◌%◌, ◌^◌, ◌≤◌, ◌<◌}
use native.Mathlib.Nat.{pow-suc}
use native.Mathlib.Omega.{arith}
use lib.ListN.{length, length-append}
use Rattle.base.specs.Lists.{Each}
use Rattle.base.specs.Compare.{less}
use Rattle.base.proofs.Compare.{less_on, less_off}
use Rattle.base.proofs.Picks.{pick_elim}
use Rattle.base.proofs.Parts.{each_append}
use Rattle.show.specs.Show.{digit, decimal_in, decimal}
use Rattle.paper.specs.Taken.{value_from}

abbrev pub Digit : ℕ → Type 0
Digit c = (48 ≤ c) × (c < 58)

-- xs writes n, in the fewest digits
pub record InDecimal (n : ℕ) (xs : List ℕ) : Type 0 where
  pub digits : Each Digit xs
  pub some : 0 < length xs
  pub few : (w : ℕ) → 0 < w → n < 10 ^ w → length xs ≤ w
  pub value : value_from 0 xs ≡ n

one-digit : (n : ℕ) → n < 10 → InDecimal n (digit n ∷ [])
unfolding value_from
one-digit n h = record { digits = ((omega arith, omega arith), tt); some = omega arith; few = λ w l k. omega arith; value = omega arith }

value_last : (v : ℕ) (xs : List ℕ) (d : ℕ) → value_from v (xs ++ (digit d ∷ [])) ≡ 10 * value_from v xs + d
unfolding value_from
value_last v [] d = omega arith
value_last v (x ∷ xs) d = value_last (10 * v + (x - 48)) xs d

one_more : (n : ℕ) (xs : List ℕ) → 10 ≤ n → InDecimal (n / 10) xs → InDecimal n (xs ++ (digit (n % 10) ∷ []))
one_more n xs h w =
    record {
      digits = each_append Digit xs (digit (n % 10) ∷ []) w.digits ((omega arith, omega arith), tt);
      some = omega (arith, length-append xs (digit (n % 10) ∷ []));
      few = few;
      value = value_last 0 xs (n % 10) ∙ omega (arith, w.value);
    }
  where
    few : (v : ℕ) → 0 < v → n < 10 ^ v → length (xs ++ (digit (n % 10) ∷ [])) ≤ v
    few zero l k = absurd (omega arith)
    few (suc zero) l k = absurd (omega (arith, pow-suc 10 0))
    few (suc (suc v)) l k =
        omega (arith, length-append xs (digit (n % 10) ∷ []), w.few (suc v) (omega arith) (omega (arith, pow-suc 10 (suc v))))

decimal_in_lem : (f n : ℕ) → n < 10 ^ suc f → InDecimal n (decimal_in (suc f) n)
unfolding decimal_in
decimal_in_lem zero n h =
    pick_elim (InDecimal n) (less n 10) _ _ (λ e. one-digit n (less_on n 10 e)) (λ e. absurd (omega (arith, less_off n 10 e, pow-suc 10 0)))
decimal_in_lem (suc f) n h =
    pick_elim (InDecimal n) (less n 10) _ _ (λ e. one-digit n (less_on n 10 e))
    (λ e. one_more n (decimal_in (suc f) (n / 10)) (less_off n 10 e) (decimal_in_lem f (n / 10) (omega (arith, pow-suc 10 (suc f)))))

pub in_decimal : (n : ℕ) → n < 10 ^ 20 → InDecimal n (decimal n)
unfolding decimal
in_decimal n h = decimal_in_lem 19 n h
