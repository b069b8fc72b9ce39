-- Cases of our own that the twelve can't tell (01, "Slips that books invite"; 02, request 6): phi and psi held against the possible states, which are
-- fewer than the sighting; a tie that goes to more legs; a reverse command that one state of a set can carry out and another can't. Every number stands
-- here as a literal. Assumes nothing: these are definitions.
use Rattle.std.specs.Prelude.{◌≡◌, List, [], ◌∷◌, ℕ}
use Rattle.base.specs.Lists.{Each}
use Rattle.reversal.specs.Device.{Device, Transition, tabled}
use Rattle.reversal.specs.Reversal.{Item, Leads, Reverses, Accepted}
use Rattle.reversal.specs.Units.{UnitsToFailure}
use Rattle.reversal.specs.Runs.{Run}
use Rattle.reversal.specs.Chains.{Chain, cost}
use Rattle.reversal.specs.Answers.{Answers}
use Rattle.reversal.specs.Twelve.{Q, made, ones, run, leg, found}

-- 1 / 0, 2, 1, and the run 1; 1 7: nothing was heard at point 1, and only state 1 is possible there
abbrev pub items_phi : List Item
items_phi = made (1 ∷ []) (0 ∷ []) 2 1 ∷ []

abbrev pub run_phi : Run
run_phi = run (1 ∷ []) (1 ∷ 7 ∷ [])

-- 2 / 0, 7, 1, and the run 2; 7 7: nothing was heard at point 0, and only state 0 is possible there
abbrev pub items_psi : List Item
items_psi = made (2 ∷ []) (0 ∷ []) 7 1 ∷ []

abbrev pub run_psi : Run
run_psi = run (2 ∷ []) (7 ∷ 7 ∷ [])

-- 1 / nothing, 7, 2; 2 / 0, 7, 7; 2 1 / 0, 7, 7, and the run of Q6: items 0, 1 and item 2 alone need one command each
abbrev pub items_tie : List Item
items_tie = made (1 ∷ []) [] 7 2 ∷ made (2 ∷ []) (0 ∷ []) 7 7 ∷ made (2 ∷ 1 ∷ []) (0 ∷ []) 7 7 ∷ []

abbrev pub run_tie : Run
run_tie = run (2 ∷ 1 ∷ []) (7 ∷ 2 ∷ 7 ∷ [])

-- a device with 2 states and 3 commands: command 0 leads everywhere to state 0, command 1 everywhere to 1, command 2 from 0 to 0 or 1 and is empty in 1
abbrev pub P : Device
P = tabled 2 3 (1 ∷ 2 ∷ 3 ∷ 1 ∷ 2 ∷ 0 ∷ [])

-- 2 / 2 0, 3, 1: from 0 the forward command leads to 0 or 1; in 0 the first reverse command can be carried out, in 1 it can't
abbrev pub one_stuck : Item
one_stuck = made (2 ∷ []) (2 ∷ 0 ∷ []) 3 1

pub record Slips : Type 0 where
  pub accepted_phi : Each (Accepted Q) items_phi
  pub accepted_psi : Each (Accepted Q) items_psi
  pub accepted_tie : Each (Accepted Q) items_tie
  -- "Judging phi by the sighting alone; the possible states may be fewer.": plan 0, leg (0, 1, 0), though the sighting 7 is not inside phi
  pub phi : Answers Q ones items_phi run_phi (found (0 ∷ []) (leg 0 1 0 ∷ []) 1 1 1 (0 ∷ 1 ∷ []) 31)
  -- psi likewise
  pub psi : Answers Q ones items_psi run_psi (found (0 ∷ []) (leg 0 1 0 ∷ []) 1 1 1 (0 ∷ 1 ∷ []) 31)
  -- "among equals, the list of item numbers that is lower at the first difference": items 0, 1, two legs, though item 2 alone needs one command too
  pub tie : Answers Q ones items_tie run_tie (found (0 ∷ []) (leg 0 2 1 ∷ leg 1 1 0 ∷ []) 1 2 1 (0 ∷ 1 ∷ 1 ∷ []) 30)
  pub tie_also : Chain Q run_tie items_tie 2 (2 ∷ []) × (cost ones items_tie (2 ∷ []) ≡ 1)
  -- "Passing a reverse run because one outcome arrives while another is stuck.": through 0 every command can be carried out, and ends in the start
  pub stuck_at_one : Reverses P one_stuck → ⊥
  pub one_arrives : Leads P 0 (2 ∷ []) 0 × Leads P 0 (2 ∷ 0 ∷ []) 0
  pub one_is_stuck : Leads P 0 (2 ∷ []) 1 × ((Y : ℕ) → Transition P 1 2 Y → ⊥)
  -- 02, of the units: "the first reverse command that some state can't carry out": one forward command, and the first of two reverse ones
  pub one_stuck_units : UnitsToFailure P one_stuck 2
