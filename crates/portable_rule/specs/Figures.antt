-- Masks worked out by hand from 02's sentences, so that a slip made alike in the rule, its computed form and the code is refused.
-- Assumes nothing: these are definitions.
use Rattle.lookups.specs.Figures.{Finds, Refuses}
use Rattle.portable_rule.specs.Portable.{portable}

-- After each figure: the state by its channel, power and mode, the outcomes so too, and their numbers.
pub record Figures : Type 0 where
  -- "Commands 0 to 7 set the channel: in standby exactly,"
  pub channel_standby : Finds portable 13 6 16384  -- 5 1 0 to 6 1 0: state 14
  pub same_standby : Finds portable 13 5 8192  -- 5 1 0 to 5 1 0: state 13
  pub channel_7_standby : Finds portable 3 7 128  -- 3 0 0 to 7 0 0: state 7
  pub channel_0_standby : Finds portable 13 0 256  -- 5 1 0 to 0 1 0: state 8
  -- "in relay that channel or the present one."
  pub channel_relay : Finds portable 29 2 603979776  -- 5 1 1 to 2 1 1 or 5 1 1: states 26 and 29
  pub same_relay : Finds portable 29 5 536870912  -- 5 1 1 to 5 1 1: state 29
  pub channel_7 : Finds portable 16 7 8454144  -- 0 0 1 to 7 0 1 or 0 0 1: states 23 and 16
  -- "Commands 8 and 9 set power 0 and 1, .. in every state."
  pub power_0 : Finds portable 13 8 32  -- 5 1 0 to 5 0 0: state 5
  pub power_0_relay : Finds portable 29 8 2097152  -- 5 1 1 to 5 0 1: state 21
  pub power_1 : Finds portable 18 9 67108864  -- 2 0 1 to 2 1 1: state 26
  pub power_1_standby : Finds portable 2 9 1024  -- 2 0 0 to 2 1 0: state 10
  pub still_power_0 : Finds portable 5 8 32  -- 5 0 0 to 5 0 0: state 5
  pub still_power_1 : Finds portable 29 9 536870912  -- 5 1 1 to 5 1 1: state 29
  -- "10 sets relay, 11 sets standby, in every state."
  pub relay : Finds portable 13 10 536870912  -- 5 1 0 to 5 1 1: state 29
  pub still_relay : Finds portable 18 10 262144  -- 2 0 1 to 2 0 1: state 18
  pub standby : Finds portable 29 11 8192  -- 5 1 1 to 5 1 0: state 13
  pub still_standby : Finds portable 2 11 4  -- 2 0 0 to 2 0 0: state 2
  -- the last entry, and what is no state or no command: "refusing as the ridge lookup does"
  pub last : Finds portable 31 11 32768  -- 7 1 1 to 7 1 0: state 15
  pub state_32 : Refuses portable 32 0
  pub command_12 : Refuses portable 0 12
