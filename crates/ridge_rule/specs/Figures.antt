-- Masks worked out by hand from 01's sentences, so that a slip made alike in the rule, its computed form and the code is refused.
-- Assumes nothing: these are definitions.
use Rattle.lookups.specs.Figures.{Finds, Refuses}
use Rattle.ridge_rule.specs.Ridge.{ridge}

-- After each figure: the state by its channel, power and mode, the outcomes so too, and their numbers.
pub record Figures : Type 0 where
  -- "Commands 0 to 3 set the channel: in standby it becomes the command's number;"
  pub channel_standby : Finds ridge 11 1 512  -- 3 2 0 to 1 2 0: state 9
  -- "in relay it becomes that or stays." "State 16, command 2: 327,680."
  pub channel_relay : Finds ridge 27 1 167772160  -- 3 2 1 to 1 2 1 or 3 2 1: states 25 and 27
  pub state_16_command_2 : Finds ridge 16 2 327680  -- 0 0 1 to 2 0 1 or 0 0 1: states 18 and 16
  pub channel_beacon : Finds ridge 39 1 0  -- 3 1 2 to none
  -- "Commands 4 to 7 set the power to number - 4, modes 0 to 2."
  pub power_0 : Finds ridge 39 4 34359738368  -- 3 1 2 to 3 0 2: state 35
  pub power_1 : Finds ridge 30 5 4194304  -- 2 3 1 to 2 1 1: state 22
  pub power_2 : Finds ridge 45 6 2199023255552  -- 1 3 2 to 1 2 2: state 41
  pub power_3 : Finds ridge 27 7 2147483648  -- 3 2 1 to 3 3 1: state 31
  pub power_locked : Finds ridge 57 7 0  -- 1 2 3 to none
  -- "8 to 10 set mode number - 8, modes 0 to 2."
  pub mode_0 : Finds ridge 45 8 8192  -- 1 3 2 to 1 3 0: state 13
  pub mode_1 : Finds ridge 45 9 536870912  -- 1 3 2 to 1 3 1: state 29
  pub mode_1_standby : Finds ridge 11 9 134217728  -- 3 2 0 to 3 2 1: state 27
  pub mode_2 : Finds ridge 30 10 70368744177664  -- 2 3 1 to 2 3 2: state 46
  pub mode_locked : Finds ridge 57 10 0  -- 1 2 3 to none
  -- "11 sets mode 3, modes 0 to 2."
  pub lock : Finds ridge 27 11 576460752303423488  -- 3 2 1 to 3 2 3: state 59
  pub lock_locked : Finds ridge 57 11 0  -- 1 2 3 to none
  -- "12 sets mode 0, mode 3 only."
  pub unlock : Finds ridge 57 12 512  -- 1 2 3 to 1 2 0: state 9
  pub unlock_beacon : Finds ridge 39 12 0  -- 3 1 2 to none
  pub unlock_last : Finds ridge 63 12 32768  -- 3 3 3 to 3 3 0: state 15
  -- "13, standby: any channel." "State 0, command 13: 15."
  pub any_channel : Finds ridge 11 13 3840  -- 3 2 0 to 0 2 0, 1 2 0, 2 2 0 or 3 2 0: states 8 to 11
  pub state_0_command_13 : Finds ridge 0 13 15  -- 0 0 0 to 0 0 0, 1 0 0, 2 0 0 or 3 0 0: states 0 to 3
  pub any_relay : Finds ridge 27 13 0  -- 3 2 1 to none
  -- "14: p + 1 where p < 3; .. both modes 0 to 2."
  pub more : Finds ridge 39 14 8796093022208  -- 3 1 2 to 3 2 2: state 43
  pub most : Finds ridge 45 14 0  -- 1 3 2 to none
  pub more_locked : Finds ridge 57 14 0  -- 1 2 3 to none
  -- "15: p - 1 where p > 0; both modes 0 to 2."
  pub less : Finds ridge 30 15 67108864  -- 2 3 1 to 2 2 1: state 26
  pub least : Finds ridge 35 15 0  -- 3 0 2 to none
  pub less_locked : Finds ridge 57 15 0  -- 1 2 3 to none
  -- "A lookup with state over 63 or command over 15 returns 5, 0 and mask 0"
  pub state_64 : Refuses ridge 64 0
  pub command_16 : Refuses ridge 0 16
