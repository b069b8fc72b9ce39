-- The legs that stand in bytes, as code takes them out: `legs_bytes`, read back. proofs/LegsRead ties the two. Assumes nothing: these are definitions.
use Rattle.std.specs.Prelude.{List, [], ◌∷◌, ℕ, zero, suc, ◌+◌, ◌*◌, get_or}
use Rattle.reversal.specs.Chains.{Leg}

-- the leg of the three bytes from 3 × i on
abbrev pub leg_read : List ℕ → ℕ → Leg
leg_read s i = record { number = get_or s (3 * i) 0; upper = get_or s (3 * i + 1) 0; lower = get_or s (3 * i + 2) 0 }

-- k legs, from number i on
unfoldable pub legs_read : List ℕ → ℕ → ℕ → List Leg
legs_read s zero i = []
legs_read s (suc k) i = leg_read s i ∷ legs_read s k (i + 1)
