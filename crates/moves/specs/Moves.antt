-- The outcomes of a state and a command, looked up in a book's own moves by an index with one row for each state. Assumes nothing: these are
-- definitions.
use Rattle.std.specs.Prelude.{◌≡◌, List, ℕ, ◌+◌, ◌*◌, ◌/◌, ◌%◌, ◌^◌, ◌<◌, ◌≤◌, ltb, length, get_or, set, drop}
use Rattle.std.specs.Int.Bits.{bit_or}
use Rattle.base.specs.Tests.{pick, both}
use Rattle.base.specs.Compare.{less}
use Rattle.base.specs.Cardinality.{member, cardinality}
use Rattle.reversal.specs.Device.{Device}
use Rattle.octets.specs.Parts.{whole_at}
use Rattle.book.specs.Book.{Book, outcome_of, AllowedBook, bytes_of}

-- ---- the look-up

-- where the outcome mask of command c stands: the row has the place of the first one, and the moves of the commands below c come before it, 14
-- bytes each
abbrev pub mask_at : ℕ → ℕ → ℕ
mask_at row c = row % 65536 + 14 * cardinality c (row / 65536)

-- the outcomes of command c by a row; none where the row does not have c
unfoldable pub moved_to : List ℕ → ℕ → ℕ → ℕ
moved_to s row c = pick (member (row / 65536) c) (whole_at s (mask_at row c)) 0

-- ---- the index, as the code fills it

-- the row with command c, whose outcome mask stands at `place`
unfoldable pub with_move : ℕ → ℕ → ℕ → ℕ
with_move row place c = bit_or (pick (less row 65536) place row) (2 ^ (16 + c))

-- the masks after the move whose record begins at `at`
unfoldable pub move_added : List ℕ → ℕ → List ℕ → List ℕ
move_added s at masks =
    let q = get_or s (at + 4) 0 in
    let c = get_or s (at + 5) 0 in
    pick (less c 32) (pick (less q 64) (set masks q (with_move (get_or masks q 0) (at + 6) c)) masks) masks

-- the contract of `index`: bytes s, the masks before and after; what lies past the 64 stays
pub record Indexed (s old new : List ℕ) : Type 0 where
  pub rest : drop 64 new ≡ drop 64 old
  pub entries : (b : Book) → AllowedBook b → bytes_of b ≡ s → 64 ≤ length old → (q c : ℕ) → q < b.n → c < b.m
      → moved_to s (get_or new q 0) c ≡ outcome_of b.moves q c

-- ---- the device in bytes and their index

-- the outcomes of command c in state q; what is no state or no command has no outcomes
unfoldable pub indexed : List ℕ → ℕ → ℕ → List ℕ → ℕ → ℕ → ℕ
indexed s n m masks q c = pick (both (ltb q n) (ltb c m)) (moved_to s (get_or masks q 0) c) 0

abbrev pub moved : List ℕ → ℕ → ℕ → List ℕ → Device
moved s n m masks = record { n = n; m = m; outcomes = indexed s n m masks }
