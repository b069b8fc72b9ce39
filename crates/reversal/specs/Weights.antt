-- Weights of commands and the sum of a plan's (02, request 5), for the reader. Assumes nothing: these are definitions.
use Rattle.std.specs.Prelude.{◌≡◌, List, [], ◌∷◌, ℕ, ◌+◌, ◌≤◌, length, get_or}
use Rattle.base.specs.Lists.{Each}

-- "each 1 to 1,000"
pub record AllowedWeight (w : ℕ) : Type 0 where
  pub low : 1 ≤ w
  pub high : w ≤ 1000

-- "m two-byte weights": one for each command
pub record AllowedWeights (m : ℕ) (ws : List ℕ) : Type 0 where
  pub count : length ws ≡ m
  pub each : Each AllowedWeight ws

-- the sum of the commands' weights
abbrev pub sum_of : List ℕ → List ℕ → ℕ
sum_of ws [] = 0
sum_of ws (c ∷ cs) = get_or ws c 0 + sum_of ws cs
