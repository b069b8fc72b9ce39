-- States present, worked out by hand, with literal numbers. Assumes nothing: these are definitions.
use Rattle.std.specs.Prelude.{◌≡◌, [], ◌∷◌, ◌-◌, ◌^◌}
use Rattle.base.specs.Cardinality.{present, cardinality}
use Rattle.base.specs.Masks.{without, lowest_in}
use Rattle.base.specs.Present.{Present, LowestState}

pub record StatesPresent : Type 0 where
  -- 37 is 1 + 4 + 32: the states 0, 2 and 5, of which a device of 5 states has two
  pub in_37 : Present 64 37 (0 ∷ 2 ∷ 5 ∷ [])
  pub below_5 : Present 5 37 (0 ∷ 2 ∷ [])
  pub computed : present 64 37 ≡ 0 ∷ 2 ∷ 5 ∷ []
  pub three_in_37 : cardinality 64 37 ≡ 3
  pub two_below_5 : cardinality 5 37 ≡ 2
  pub all_of_64 : cardinality 64 (2 ^ 64 - 1) ≡ 64
  -- 40 is 8 + 32
  pub first_in_40 : LowestState 40 3
  pub lowest_of_40 : lowest_in 40 ≡ 3
  pub lowest_of_last : lowest_in (2 ^ 63) ≡ 63
  pub lowest_of_none : lowest_in 0 ≡ 64
  pub without_0 : without 37 0 ≡ 36
  pub without_absent : without 37 1 ≡ 37
