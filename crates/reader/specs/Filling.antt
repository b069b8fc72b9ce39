-- The table, the slots and the weights as the code fills them from the bytes, and what they hold for every allowed book whose bytes these are.
-- Assumes nothing: these are definitions.
use Rattle.std.specs.Prelude.{◌≡◌, List, ℕ, ◌+◌, ◌*◌, get_or, set}
use Rattle.octets.specs.Parts.{le_at}
use Rattle.book.specs.Book.{Book, AllowedBook, bytes_of}
use Rattle.book.specs.Buffers.{table_of, slots_of, weights_left}
use Rattle.items.specs.Items.{Begins}

-- the table after the move whose record begins at `at`
unfoldable pub move_stored : ℕ → List ℕ → ℕ → List ℕ → List ℕ
move_stored m s at table = set table (get_or s (at + 4) 0 * m + get_or s (at + 5) 0) (le_at 8 s (at + 6))

-- the contract of `fill_table`: bytes s, the table before and after, and where the first item begins
pub record TableFilled (s table table' : List ℕ) (r : ℕ) : Type 0 where
  pub entries : (b : Book) → AllowedBook b → bytes_of b ≡ s → table' ≡ table_of b table
  pub begins : (b : Book) → AllowedBook b → bytes_of b ≡ s → Begins s b 0 r

-- the contract of `fill_slots`: bytes s whose first item begins at `first`, the slots before and after
pub record SlotsFilled (s : List ℕ) (first : ℕ) (slots slots' : List ℕ) : Type 0 where
  pub items : (b : Book) → AllowedBook b → bytes_of b ≡ s → Begins s b 0 first → slots' ≡ slots_of b slots

-- the contract of `fill_weights`
pub record WeightsFilled (s weights weights' : List ℕ) : Type 0 where
  pub each : (b : Book) → AllowedBook b → bytes_of b ≡ s → weights' ≡ weights_left b weights
