-- A device's constant table and what its lookup answers, for any device rule (01, "The ridge repeater"; 02, CR 1), for the reader.
-- Assumes nothing: these are definitions.
use Rattle.std.specs.Prelude.{◌≡◌, List, [], ◌∷◌, ◌⊎◌, ℕ, suc, ◌+◌, ◌*◌, ◌≤◌, ◌<◌, eqb, length, get_or}
use Rattle.base.specs.Tests.{pick}
use Rattle.lookups.specs.declared.LookupResult.{LookupResult}
use Rattle.lookups.specs.Rules.{DeviceRule, OutcomesOf, WorksOut}

-- how many sets of a list are not empty
unfoldable pub filled : List ℕ → ℕ
filled [] = 0
filled (w ∷ ws) = pick (eqb w 0) (filled ws) (suc (filled ws))

-- and how many are
unfoldable pub empty_in : List ℕ → ℕ
empty_in [] = 0
empty_in (w ∷ ws) = pick (eqb w 0) (suc (empty_in ws)) (empty_in ws)

-- 01: "The constant table of 1,024 masks equals this rule; 616 aren't empty." An entry is at state × m + command; `not-empty` counts those that aren't.
pub record EqualsRule (d : DeviceRule) (not-empty : ℕ) (table : List ℕ) : Type 0 where
  pub size : length table ≡ d.n * d.m
  pub masks : WorksOut d (λ s k. get_or table (s * d.m + k) 0)
  pub count : filled table ≡ not-empty

-- 01: "A lookup with state over 63 or command over 15 returns 5, 0 and mask 0; else 0, 0 and the mask"; 02: "refusing as the ridge lookup does"
abbrev pub refusal : LookupResult
refusal = record { code = 5; place = 0; mask = 0 }

abbrev pub found : ℕ → LookupResult
found w = record { code = 0; place = 0; mask = w }

pub record Looked (d : DeviceRule) (s k : ℕ) (r : LookupResult) : Type 0 where
  pub outside : (d.n ≤ s) ⊎ (d.m ≤ k) → r ≡ refusal
  pub inside : s < d.n → k < d.m → (w : ℕ) × OutcomesOf d s k w × (r ≡ found w)
