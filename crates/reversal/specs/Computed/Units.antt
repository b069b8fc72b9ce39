-- The units that the check on sets makes (02, request 6), beside it, and the largest r. What they are by the definitions: proofs/Units, proofs/Sizes.
-- Assumes nothing: these are definitions.
use Rattle.std.specs.Prelude.{List, [], ◌∷◌, ℕ, suc, ◌+◌, length}
use Rattle.base.specs.Tests.{pick}
use Rattle.base.specs.Compare.{less}
use Rattle.base.specs.Cardinality.{present}
use Rattle.reversal.specs.Device.{Device}
use Rattle.reversal.specs.Reversal.{Item}
use Rattle.reversal.specs.Computed.Sets.{after, able, ends, start_ok, accepts}

-- a reverse run: one unit for each command up to the first that some state of the set can't carry out
unfoldable pub back_units : Device → ℕ → List ℕ → ℕ
back_units d w [] = 0
back_units d w (c ∷ cs) = suc (pick (able d c w) (back_units d (after d c w) cs) 0)

-- one start
unfoldable pub start_made : Device → Item → ℕ → ℕ
start_made d x S = length x.forward + back_units d (ends d x.forward x.phi S) x.reverse

-- a row of starts, up to the first that fails
unfoldable pub starts_made : Device → Item → List ℕ → ℕ
starts_made d x [] = 0
starts_made d x (S ∷ rest) = start_made d x S + pick (start_ok d x S) (starts_made d x rest) 0

-- an item: its starts lowest first
unfoldable pub item_made : Device → Item → ℕ
item_made d x = starts_made d x (present d.n x.psi)

-- a row of items, up to the first that is not accepted
unfoldable pub items_made : Device → List Item → ℕ
items_made d [] = 0
items_made d (x ∷ xs) = item_made d x + pick (accepts d x) (items_made d xs) 0

-- the largest r of a row of items and of the number from which the pass goes on
unfoldable pub larger : ℕ → ℕ → ℕ
larger a b = pick (less a b) b a

unfoldable pub largest_from : ℕ → List Item → ℕ
largest_from most [] = most
largest_from most (x ∷ xs) = largest_from (larger most (length x.reverse)) xs
