-- What a worked figure says of a lookup, as a literal record: it finds a mask, or refuses. Assumes nothing: these are definitions.
use Rattle.std.specs.Prelude.{ℕ}
use Rattle.lookups.specs.Rules.{DeviceRule}
use Rattle.lookups.specs.Lookup.{Looked}

-- "0, 0 and the mask"
abbrev pub Finds : DeviceRule → ℕ → ℕ → ℕ → Type 0
Finds d s k w = Looked d s k (record { code = 0; place = 0; mask = w })

-- "5, 0 and mask 0"
abbrev pub Refuses : DeviceRule → ℕ → ℕ → Type 0
Refuses d s k = Looked d s k (record { code = 5; place = 0; mask = 0 })
