-- Laws of the sum of a plan's weights. Assumes nothing.
use mathlib.Core.Path.{◌≡◌, refl}
use mathlib.Core.List.{List, [], ◌∷◌, ◌++◌}
use Prim.Native.Nat.{ℕ, zero, suc, ◌+◌, ◌*◌, ◌≤◌, ◌<◌}
use native.Mathlib.Omega.{arith}
use lib.ListN.{length, get_or}
use Rattle.base.specs.Lists.{Each}
use Rattle.reversal.specs.Weights.{AllowedWeight, sum_of}

pub sum-append : (ws cs es : List ℕ) → sum_of ws (cs ++ es) ≡ sum_of ws cs + sum_of ws es
sum-append ws [] es = omega arith
sum-append ws (c ∷ cs) es = omega (arith, sum-append ws cs es)

-- what is no command weighs 0
weight-most : (ws : List ℕ) → Each AllowedWeight ws → (c : ℕ) → get_or ws c 0 ≤ 1000
weight-most [] q c = omega arith
weight-most (w ∷ ws) q zero = q.0.high
weight-most (w ∷ ws) q (suc c) = weight-most ws q.1 c

pub sum-most : (ws : List ℕ) → Each AllowedWeight ws → (cs : List ℕ) → sum_of ws cs ≤ 1000 * length cs
sum-most ws q [] = omega arith
sum-most ws q (c ∷ cs) = omega (arith, weight-most ws q c, sum-most ws q cs)

-- weights that agree below m give commands below m the same sum
pub sum_same : (ws vs : List ℕ) (m : ℕ) → ((c : ℕ) → c < m → get_or ws c 0 ≡ get_or vs c 0) → (cs : List ℕ) → Each (λ c. c < m) cs
    → sum_of ws cs ≡ sum_of vs cs
sum_same ws vs m same [] q = refl
sum_same ws vs m same (c ∷ cs) q = omega (arith, same c q.0, sum_same ws vs m same cs q.1)
