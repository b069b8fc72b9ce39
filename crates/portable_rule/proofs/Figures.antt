-- The portable relay's figures. Assumes nothing.
use mathlib.Core.Path.{refl}
use Rattle.base.specs.Tests.{pick}
use Rattle.lookups.specs.Computed.{answer_of}
use Rattle.lookups.proofs.Exactly.{looked}
use Rattle.portable_rule.specs.Figures.{Figures}
use Rattle.portable_rule.specs.Computed.{single, rule_mask}
use Rattle.portable_rule.proofs.Rules.{works_out}

-- each mask computed, and carried to the relation
pub figures : Figures
unfolding pick single rule_mask answer_of
figures =
    record {
      channel_standby = looked works_out 13 6 _ refl;
      same_standby = looked works_out 13 5 _ refl;
      channel_7_standby = looked works_out 3 7 _ refl;
      channel_0_standby = looked works_out 13 0 _ refl;
      channel_relay = looked works_out 29 2 _ refl;
      same_relay = looked works_out 29 5 _ refl;
      channel_7 = looked works_out 16 7 _ refl;
      power_0 = looked works_out 13 8 _ refl;
      power_0_relay = looked works_out 29 8 _ refl;
      power_1 = looked works_out 18 9 _ refl;
      power_1_standby = looked works_out 2 9 _ refl;
      still_power_0 = looked works_out 5 8 _ refl;
      still_power_1 = looked works_out 29 9 _ refl;
      relay = looked works_out 13 10 _ refl;
      still_relay = looked works_out 18 10 _ refl;
      standby = looked works_out 29 11 _ refl;
      still_standby = looked works_out 2 11 _ refl;
      last = looked works_out 31 11 _ refl;
      state_32 = looked works_out 32 0 _ refl;
      command_12 = looked works_out 0 12 _ refl;
    }
