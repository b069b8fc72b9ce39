-- The check on sets makes no more units than 02's sum. Assumes nothing.
use mathlib.Core.Bool.{Bool, true, false}
use mathlib.Core.List.{List, [], ◌∷◌}
use Prim.Native.Nat.{ℕ, ◌*◌, ◌≤◌}
use native.Mathlib.Nat.{suc-mul}
use native.Mathlib.Omega.{arith}
use lib.ListN.{length}
use Rattle.base.specs.Tests.{pick}
use Rattle.base.specs.Cardinality.{present}
use Rattle.reversal.specs.Device.{Device}
use Rattle.reversal.specs.Reversal.{Item}
use Rattle.reversal.specs.Units.{start_units, item_units, sum_units}
use Rattle.reversal.specs.Computed.Sets.{after, able, ends, start_ok, accepts}
use Rattle.reversal.specs.Computed.Units.{back_units, start_made, starts_made, item_made, items_made}

-- one of two numbers, of which neither is above
pick-most : (b : Bool) (x y most : ℕ) → x ≤ most → y ≤ most → pick b x y ≤ most
unfolding pick
pick-most true x y most h k = h
pick-most false x y most h k = k

-- ---- no more than 02's sum
module _ (d : Device) where
  pub back_most : (cs : List ℕ) (w : ℕ) → back_units d w cs ≤ length cs
  unfolding back_units
  back_most [] w = omega arith
  back_most (c ∷ cs) w = omega (arith, pick-most (able d c w) (back_units d (after d c w) cs) 0 (length cs) (back_most cs (after d c w)) (omega arith))

  module _ (x : Item) where
    start-most : (S : ℕ) → start_made d x S ≤ start_units x
    unfolding start_made
    start-most S = omega (arith, back_most x.reverse (ends d x.forward x.phi S))

    starts-most : (xs : List ℕ) → starts_made d x xs ≤ length xs * start_units x
    unfolding starts_made
    starts-most [] = omega arith
    starts-most (S ∷ xs) =
        omega (
          arith,
          start-most S,
          pick-most (start_ok d x S) (starts_made d x xs) 0 (length xs * start_units x) (starts-most xs) (omega arith),
          suc-mul (length xs) (start_units x),
        )

    item-most : item_made d x ≤ item_units d.n x
    unfolding item_made
    item-most = starts-most (present d.n x.psi)

  pub items-most : (xs : List Item) → items_made d xs ≤ sum_units d.n xs
  unfolding items_made
  items-most [] = omega arith
  items-most (x ∷ xs) = omega (arith, item-most x, pick-most (accepts d x) (items_made d xs) 0 (sum_units d.n xs) (items-most xs) (omega arith))
