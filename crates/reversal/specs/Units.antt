-- How much checking a book's items takes, in units (02, request 6), for the reader. Assumes nothing: these are definitions.
use Rattle.std.specs.Prelude.{◌≡◌, ◌⊎◌, List, [], ◌∷◌, ℕ, suc, ◌+◌, ◌*◌, ◌≤◌, ◌<◌, length, get_or, take}
use Rattle.base.specs.Sets.{In}
use Rattle.base.specs.Lists.{Each}
use Rattle.base.specs.Lowest.{LowestWrong}
use Rattle.base.specs.Cardinality.{cardinality}
use Rattle.reversal.specs.Device.{Device, Transition}
use Rattle.reversal.specs.Reversal.{Item, Leads, MultiRev}
use Rattle.reversal.specs.Chains.{item}

-- 02: "One unit is one command applied to one set, an empty set too. .. starts lowest first, each with its forward commands and then its reverse ones
-- on all its ends together": k + r for a start, with ends or without
abbrev pub start_units : Item → ℕ
start_units x = length x.forward + length x.reverse

-- 02: "(states in psi) × (k + r)", of n states
abbrev pub item_units : ℕ → Item → ℕ
item_units n x = cardinality n x.psi * start_units x

-- 02: "the sum over items"
abbrev pub sum_units : ℕ → List Item → ℕ
sum_units n [] = 0
sum_units n (x ∷ xs) = item_units n x + sum_units n xs

-- 02: "the largest r (0 without items)"
pub record LargestReverse (items : List Item) (most : ℕ) : Type 0 where
  pub none_above : Each (λ x. length x.reverse ≤ most) items
  pub reached : (most ≡ 0) ⊎ ((i : ℕ) × (i < length items) × (length (item items i).reverse ≡ most))

-- ---- an item that is no conditional reverse plan

-- the start S is brought back from each of its ends in phi (001, formula (9))
abbrev pub ComesBack : Device → Item → ℕ → Type 0
ComesBack d x S = (E : ℕ) → In x.phi E → MultiRev d S E x.forward x.reverse

-- the first start in psi that is not: "starts lowest first"
abbrev pub FirstFailing : Device → Item → ℕ → Type 0
FirstFailing d x S = LowestWrong (λ s. In x.psi s → ComesBack d x s) d.n S

-- the first j reverse commands may lead to t from an end of S
abbrev pub LedBack : Device → Item → ℕ → ℕ → ℕ → Type 0
LedBack d x S j t = (E : ℕ) × In x.phi E × Leads d S x.forward E × Leads d E (take j x.reverse) t

-- and each such state can carry out the next one
abbrev pub CarriedOut : Device → Item → ℕ → ℕ → Type 0
CarriedOut d x S j = (t : ℕ) → LedBack d x S j t → (Y : ℕ) × Transition d t (get_or x.reverse j 0) Y

-- 02: "up to and including the first reverse command that some state can't carry out, or the start's last command where a run ends outside S"
pub data UnitsOfFailing (d : Device) (x : Item) (S units : ℕ) : Type 0 where
  stuck : {j : ℕ} → LowestWrong (CarriedOut d x S) (length x.reverse) j → units ≡ length x.forward + suc j → UnitsOfFailing d x S units
  outside : ((j : ℕ) → j < length x.reverse → CarriedOut d x S j) → units ≡ start_units x → UnitsOfFailing d x S units

-- with the starts before it, each of which has all its units
pub record UnitsToFailure (d : Device) (x : Item) (units : ℕ) : Type 0 where
  pub start : ℕ
  pub failing : FirstFailing d x start
  pub last : ℕ
  pub stops : UnitsOfFailing d x start last
  pub total : units ≡ cardinality start x.psi * start_units x + last
