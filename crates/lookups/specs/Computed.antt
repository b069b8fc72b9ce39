-- A lookup's answer as the code computes it, which proofs/Exactly ties to `Looked`; a rule's function for any numbers. Assumes nothing: these are
-- definitions.
use Rattle.std.specs.Prelude.{◌||◌, ℕ, leb, Option, Some, None}
use Rattle.base.specs.Tests.{pick}
use Rattle.lookups.specs.declared.LookupResult.{LookupResult}
use Rattle.lookups.specs.Rules.{DeviceRule, OutcomesOf}
use Rattle.lookups.specs.Lookup.{refusal, found}

-- of a device with n states and m commands, where w is the mask of state s and command k
unfoldable pub answer_of : ℕ → ℕ → ℕ → ℕ → ℕ → LookupResult
answer_of n m s k w = pick (leb n s || leb m k) refusal (found w)

-- from the mask, if there is one
abbrev pub answered : Option ℕ → LookupResult
answered None = refusal
answered (Some w) = found w

-- the same by a device's rule, worked out by f
abbrev pub lookup_of : DeviceRule → (ℕ → ℕ → ℕ) → ℕ → ℕ → LookupResult
lookup_of d f s k = answer_of d.n d.m s k (f s k)

-- `WorksOut` for any numbers, as the code's functions have it: what is no state or no command has no outcomes
abbrev pub WorksOutAll : DeviceRule → (ℕ → ℕ → ℕ) → Type 0
WorksOutAll d f = (s k : ℕ) → OutcomesOf d s k (f s k)
