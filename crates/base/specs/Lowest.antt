-- The lowest number at which something does not hold, for the reader. Assumes nothing: these are definitions.
use Rattle.std.specs.Prelude.{ℕ, ◌<◌}

-- of the numbers below k, the first at which P does not hold
pub record LowestWrong (P : ℕ → Type 0) (k i : ℕ) : Type 0 where
  pub inside : i < k
  pub wrong : P i → ⊥
  pub before : (j : ℕ) → j < i → P j
