-- The item in a lent slot, and whether a slot may be written, as the code reads and judges them: the one form of a slot beside Lent's `slot_of`.
-- proofs/Slots ties the two, both ways. Assumes nothing: these are definitions.
use Rattle.std.specs.Prelude.{Bool, false, not, List, ℕ, ◌+◌, ◌-◌, ◌*◌, length, get_or}
use Rattle.base.specs.Tests.{pick}
use Rattle.base.specs.Compare.{less}
use Rattle.reversal.specs.Reversal.{Item}
use Rattle.octets.specs.Parts.{le_at, piece}
use Rattle.book.specs.Limits.{counts_fine, all_below, fields_fine}

-- the item in slot a: 34 bytes with k, r, eight forward and eight reverse commands, phi and psi
unfoldable pub item_at : List ℕ → ℕ → Item
item_at slots a =
    record {
      forward = piece (get_or slots (34 * a) 0) slots (34 * a + 2);
      reverse = piece (get_or slots (34 * a + 1) 0) slots (34 * a + 10);
      phi = le_at 8 slots (34 * a + 18);
      psi = le_at 8 slots (34 * a + 26);
    }

-- the command bytes of eight, from p on, that k commands leave unused
abbrev pub unused : ℕ → List ℕ → ℕ → List ℕ
unused k slots p = piece (8 - k) slots (p + k)

-- slot a keeps an item's limits and has zeros in its unused command bytes: `SlotAllowed`, computed
unfoldable pub slot_fine : ℕ → ℕ → List ℕ → ℕ → Bool
slot_fine n m slots a =
    let x = item_at slots a in
    pick (less (length slots) (34 * a + 34)) false
    (pick (not (counts_fine (length x.forward) (length x.reverse))) false
    (pick (not (fields_fine n m x)) false
    (pick (not (all_below 1 (unused (length x.forward) slots (34 * a + 2)))) false (all_below 1 (unused (length x.reverse) slots (34 * a + 10))))))
