-- The ridge repeater's figures. Assumes nothing.
use mathlib.Core.Path.{refl}
use Rattle.base.specs.Tests.{pick}
use Rattle.base.specs.Bounded.{union}
use Rattle.ridge_rule.specs.Figures.{Figures}
use Rattle.lookups.specs.Computed.{answer_of}
use Rattle.lookups.proofs.Exactly.{looked}
use Rattle.ridge_rule.specs.Computed.{single, rule_mask}
use Rattle.ridge_rule.proofs.Rules.{works_out}

-- each mask computed, and carried to the relation
pub figures : Figures
unfolding pick union single rule_mask answer_of
figures =
    record {
      channel_standby = looked works_out 11 1 _ refl;
      channel_relay = looked works_out 27 1 _ refl;
      state_16_command_2 = looked works_out 16 2 _ refl;
      channel_beacon = looked works_out 39 1 _ refl;
      power_0 = looked works_out 39 4 _ refl;
      power_1 = looked works_out 30 5 _ refl;
      power_2 = looked works_out 45 6 _ refl;
      power_3 = looked works_out 27 7 _ refl;
      power_locked = looked works_out 57 7 _ refl;
      mode_0 = looked works_out 45 8 _ refl;
      mode_1 = looked works_out 45 9 _ refl;
      mode_1_standby = looked works_out 11 9 _ refl;
      mode_2 = looked works_out 30 10 _ refl;
      mode_locked = looked works_out 57 10 _ refl;
      lock = looked works_out 27 11 _ refl;
      lock_locked = looked works_out 57 11 _ refl;
      unlock = looked works_out 57 12 _ refl;
      unlock_beacon = looked works_out 39 12 _ refl;
      unlock_last = looked works_out 63 12 _ refl;
      any_channel = looked works_out 11 13 _ refl;
      state_0_command_13 = looked works_out 0 13 _ refl;
      any_relay = looked works_out 27 13 _ refl;
      more = looked works_out 39 14 _ refl;
      most = looked works_out 45 14 _ refl;
      more_locked = looked works_out 57 14 _ refl;
      less = looked works_out 30 15 _ refl;
      least = looked works_out 35 15 _ refl;
      less_locked = looked works_out 57 15 _ refl;
      state_64 = looked works_out 64 0 _ refl;
      command_16 = looked works_out 0 16 _ refl;
    }
