-- Two cases of our own on the device Q with weights (02, request 5): the chain with more commands is the cheaper; equal sums and different counts.
-- Every number stands here as a literal. Assumes nothing: these are definitions.
use Rattle.std.specs.Prelude.{◌≡◌, List, [], ◌∷◌, ℕ, length}
use Rattle.base.specs.Lists.{Each}
use Rattle.reversal.specs.Reversal.{Item, Accepted}
use Rattle.reversal.specs.Runs.{Run}
use Rattle.reversal.specs.Chains.{Chain, plan_of, cost}
use Rattle.reversal.specs.Answers.{Answers}
use Rattle.reversal.specs.Twelve.{Q, made, run, leg, found}

-- 1 / 0 1, 2, 2 and 1 / 1 1 1, 2, 2: both undo command 1 where the repeater stood in 1
abbrev pub two_back : Item
two_back = made (1 ∷ []) (0 ∷ 1 ∷ []) 2 2

abbrev pub three_back : Item
three_back = made (1 ∷ []) (1 ∷ 1 ∷ 1 ∷ []) 2 2

-- 1; 2 2
abbrev pub run_w : Run
run_w = run (1 ∷ []) (2 ∷ 2 ∷ [])

-- command 0 costs 300, command 1 costs 2: the item with two commands costs 302, the one with three costs 6
abbrev pub dear : List ℕ
dear = 300 ∷ 2 ∷ 1 ∷ []

abbrev pub items_dear : List Item
items_dear = two_back ∷ three_back ∷ []

-- command 0 costs 4, command 1 costs 2: both items cost 6
abbrev pub even : List ℕ
even = 4 ∷ 2 ∷ 1 ∷ []

abbrev pub items_even : List Item
items_even = three_back ∷ two_back ∷ []

pub record Weighted : Type 0 where
  pub accepted : Each (Accepted Q) items_dear
  -- plan 1 1 1, leg (1, 1, 0): 3 commands, sum 6, though item 0 also leads there with 2 commands
  pub more_commands : Answers Q dear items_dear run_w (found (1 ∷ 1 ∷ 1 ∷ []) (leg 1 1 0 ∷ []) 3 1 6 (0 ∷ 6 ∷ []) 31)
  pub fewer_also : Chain Q run_w items_dear 1 (0 ∷ []) × (length (plan_of items_dear (0 ∷ [])) ≡ 2) × (cost dear items_dear (0 ∷ []) ≡ 302)
  -- plan 1 1 1, leg (0, 1, 0): "equal sums go to the lower item list", though item 1 has the same sum and 2 commands
  pub equal_sums : Answers Q even items_even run_w (found (1 ∷ 1 ∷ 1 ∷ []) (leg 0 1 0 ∷ []) 3 1 6 (0 ∷ 6 ∷ []) 31)
  pub equal_also : Chain Q run_w items_even 1 (1 ∷ []) × (length (plan_of items_even (1 ∷ [])) ≡ 2) × (cost even items_even (1 ∷ []) ≡ 6)
