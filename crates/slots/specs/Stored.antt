-- The commands and masks of the item in a slot, stored one after the other. Assumes nothing: these are definitions.
use Rattle.std.specs.Prelude.{◌≡◌, List, ◌++◌, ℕ, ◌+◌, ◌*◌, ◌≤◌, length}
use Rattle.reversal.specs.Reversal.{Item}
use Rattle.octets.specs.Le.{bytes_le}
use Rattle.book.specs.Slots.{item_at}

-- an item's commands and masks, as in its record
unfoldable pub parts_of : Item → List ℕ
parts_of x = x.forward ++ x.reverse ++ bytes_le 8 x.phi ++ bytes_le 8 x.psi

-- slot a is there; its item has k forward and r reverse commands, at most 8 each
pub record HasCounts (s : List ℕ) (a k r : ℕ) : Type 0 where
  pub room : 34 * a + 34 ≤ length s
  pub forward : k ≡ length (item_at s a).forward
  pub reverse : r ≡ length (item_at s a).reverse
  pub few : k ≤ 8
  pub few_reverse : r ≤ 8
