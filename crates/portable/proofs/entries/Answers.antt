-- `portable::entries` meets its contract: one test over all 384 entries of the constant, its length, and how many are not empty, computed. Assumes nothing.
use Rattle.std.proofs.Common.{refl}
use Rattle.base.specs.Tests.{pick, both}
use Rattle.base.specs.Tables.{every, by_rule}
use Rattle.lookups.specs.Lookup.{filled}
use Rattle.lookups.proofs.Tables.{rule_to_table}
use Rattle.portable_rule.specs.Computed.{single, rule_mask}
use Rattle.portable_rule.proofs.Rules.{works_out}
use Rattle.portable.proofs.entries.Goals as goal

pub returns : goal.returns
unfolding pick both filled every by_rule single rule_mask
returns c = rule_to_table works_out refl tt refl
