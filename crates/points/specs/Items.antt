-- The items by number and the weights, wherever they are read: what assembling computes of them speaks of this alone. Assumes nothing: these are
-- definitions.
use Rattle.std.specs.Prelude.{◌≡◌, List, ℕ, ◌<◌, length, get_or}
use Rattle.reversal.specs.Reversal.{Item}
use Rattle.reversal.specs.Chains.{item}
use Rattle.items.specs.Items.{item_in}

abbrev pub Items : Type 0
Items = ℕ → Item

-- the items in a book's bytes, item a at the a-th of the places
abbrev pub recorded : List ℕ → List ℕ → Items
recorded book places a = item_in book (get_or places a 0)

-- the number of forward commands of item a
abbrev pub k_of : Items → ℕ → ℕ
k_of F a = length (F a).forward

-- they are the items of a list
abbrev pub ItemsOf : List Item → Items → Type 0
ItemsOf items F = (a : ℕ) → a < length items → F a ≡ item items a

-- the weights W are the list ws for the commands below m
abbrev pub WeightsOf : ℕ → List ℕ → List ℕ → Type 0
WeightsOf m ws W = (c : ℕ) → c < m → get_or W c 0 ≡ get_or ws c 0
