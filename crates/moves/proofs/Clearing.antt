-- Masks set to 0, as far as there are any. Assumes nothing.
use mathlib.Core.Path.{◌≡◌, refl, ap}
use mathlib.Core.List.{List, [], ◌∷◌, ◌++◌}
use Prim.Native.Nat.{ℕ, zero, suc, min}
use native.Mathlib.Omega.{arith}
use lib.ListN.{length, set, take, drop, replicate}
use Rattle.book.specs.Buffers.{zeroed}

pub zeros-then : (l : List ℕ) (k n : ℕ) → k ≡ min n (length l) → replicate (length (take k l)) 0 ++ drop k l ≡ zeroed n l
unfolding zeroed
zeros-then [] zero zero e = refl
zeros-then [] zero (suc n) e = refl
zeros-then [] (suc k) n e = absurd (omega arith)
zeros-then (x ∷ l) zero zero e = refl
zeros-then (x ∷ l) zero (suc n) e = absurd (omega arith)
zeros-then (x ∷ l) (suc k) zero e = absurd (omega arith)
zeros-then (x ∷ l) (suc k) (suc n) e = ap (λ (t : List ℕ). 0 ∷ t) (zeros-then l k n (omega arith))

-- what lies past them stays
pub drop-zeroed : (i : ℕ) (l : List ℕ) → drop i (zeroed i l) ≡ drop i l
unfolding zeroed
drop-zeroed zero l = refl
drop-zeroed (suc i) [] = refl
drop-zeroed (suc i) (x ∷ l) = drop-zeroed i l

-- the next mask set to 0
pub zeroed-more : (l : List ℕ) (i : ℕ) → set (zeroed i l) i 0 ≡ zeroed (suc i) l
unfolding zeroed
zeroed-more [] zero = refl
zeroed-more (x ∷ l) zero = refl
zeroed-more [] (suc i) = refl
zeroed-more (x ∷ l) (suc i) = ap (λ (t : List ℕ). 0 ∷ t) (zeroed-more l i)
