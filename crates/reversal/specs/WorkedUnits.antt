-- The units and the largest r of the items of device Q and of the case with weights, with literal numbers. Assumes nothing: these are definitions.
use Rattle.std.specs.Prelude.{◌≡◌, [], ◌∷◌, map}
use Rattle.reversal.specs.Twelve.{items_q}
use Rattle.reversal.specs.Weighted.{items_dear}
use Rattle.reversal.specs.Units.{item_units, sum_units, LargestReverse}

pub record WorkedUnits : Type 0 where
  -- 3 × (1 + 2), 1 × (1 + 1), 3 × (2 + 1), 1 × (1 + 0) and 3 × (1 + 1)
  pub each_item : map (item_units 3) items_q ≡ 9 ∷ 2 ∷ 9 ∷ 1 ∷ 6 ∷ []
  pub sum : sum_units 3 items_q ≡ 27
  -- 1 × (1 + 2) and 1 × (1 + 3)
  pub sum_dear : sum_units 3 items_dear ≡ 7
  pub largest_dear : LargestReverse items_dear 3
  pub largest : LargestReverse items_q 2
  -- 02: "(0 without items)"
  pub largest_none : LargestReverse [] 0
