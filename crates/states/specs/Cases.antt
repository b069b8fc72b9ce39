-- Visits of a command, and the states before it, worked out by hand, with literal numbers. Assumes nothing: these are definitions.
use Rattle.std.specs.Prelude.{◌≡◌, true, false, List, [], ◌∷◌, ℕ}
use Rattle.reversal.specs.Device.{tabled}
use Rattle.states.specs.StateSets.{set_of, outcomes_of, before_in, visited_in}

-- three states and one command: state 0 may go to 1 or 2, state 1 can't carry it out, state 2 goes to 0
abbrev pub three : List ℕ
three = 6 ∷ 0 ∷ 1 ∷ []

pub record Visits : Type 0 where
  pub from_0_and_2 : visited_in (tabled 3 1 three) 0 5 ≡ record { set = set_of 7; able = true; visits = 2 }
  -- a state without outcomes is a visit
  pub from_0_and_1 : visited_in (tabled 3 1 three) 0 3 ≡ record { set = set_of 6; able = false; visits = 2 }
  pub from_nowhere : visited_in (tabled 3 1 three) 0 0 ≡ record { set = set_of 0; able = true; visits = 0 }
  -- 13 is 1 + 4 + 8: state 3 is none of the three
  pub past_n : visited_in (tabled 3 1 three) 0 13 ≡ record { set = set_of 7; able = true; visits = 2 }
  -- 65 states, 33 commands
  pub states_over : visited_in (tabled 65 1 three) 0 5 ≡ record { set = set_of 0; able = false; visits = 0 }
  pub commands_over : visited_in (tabled 3 33 three) 0 5 ≡ record { set = set_of 0; able = false; visits = 0 }
  -- of all three states, 0 alone may lead into 2
  pub into_2 : before_in (tabled 3 1 three) 0 7 4 ≡ 1

-- one state alone; none of what is no state or command, and of a device of 65 states or 33 commands
pub record Outcomes : Type 0 where
  pub of_0 : outcomes_of (tabled 3 1 three) 0 0 ≡ 6
  pub of_1 : outcomes_of (tabled 3 1 three) 1 0 ≡ 0
  pub of_2 : outcomes_of (tabled 3 1 three) 2 0 ≡ 1
  pub no_state : outcomes_of (tabled 2 1 three) 2 0 ≡ 0
  pub no_command : outcomes_of (tabled 3 1 three) 1 1 ≡ 0
  pub states_64 : outcomes_of (tabled 64 1 three) 2 0 ≡ 1
  pub states_65 : outcomes_of (tabled 65 1 three) 2 0 ≡ 0
  pub commands_32 : outcomes_of (tabled 3 32 three) 0 2 ≡ 1
  pub commands_33 : outcomes_of (tabled 3 33 three) 0 2 ≡ 0
