-- The lookup's answer as the code computes it, which lookups/proofs/Exactly ties to `Looked`. Assumes nothing: these are definitions.
use Rattle.std.specs.Prelude.{ℕ}
use Rattle.lookups.specs.declared.LookupResult.{LookupResult}
use Rattle.lookups.specs.Computed.{lookup_of}
use Rattle.portable_rule.specs.Portable.{portable}
use Rattle.portable_rule.specs.Computed.{rule_mask}

abbrev pub portable_lookup : ℕ → ℕ → LookupResult
portable_lookup s k = lookup_of portable rule_mask s k
