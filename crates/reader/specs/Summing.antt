-- The units and the longest reverse of a book's items (02, request 6), summed up in the pass that judges its bytes, for every allowed book whose
-- bytes these are. Assumes nothing: these are definitions.
use Rattle.std.specs.Prelude.{◌≡◌, List, ℕ, ◌+◌, ◌*◌, ◌≤◌, ◌<◌, length, Result, Ok, Err, IfOk}
use Rattle.reversal.specs.Reversal.{Item}
use Rattle.reversal.specs.Chains.{item}
use Rattle.reversal.specs.Units.{item_units, sum_units}
use Rattle.reversal.specs.Computed.Units.{larger, largest_from}
use Rattle.octets.specs.Parts.{le_at}
use Rattle.book.specs.Book.{Book, AllowedBook, bytes_of, items_of}
use Rattle.book.specs.Parse.{Scan, cut, scan, at_start}
use Rattle.items.specs.Items.{ItemStands}
use Rattle.reader.specs.declared.units.Tally.{Tally}
use Rattle.book.specs.declared.fault.FaultAt.{FaultAt}
use Rattle.reader.specs.declared.Sums.{Sums}
use Rattle.reader.specs.Judged.{Limits}

-- what the items passed so far may come to, for any bytes: 64 states, 255 forward and 255 reverse commands
pub record Within (t : Tally) : Type 0 where
  pub few : t.count ≤ 64
  pub units_high : t.units ≤ 32640 * t.count
  pub longest_high : t.longest < 256

-- with one more item, of a device of n states
abbrev pub with_item : ℕ → Item → Tally → Tally
with_item n x t = record { count = t.count + 1; units = t.units + item_units n x; longest = larger t.longest (length x.reverse) }

-- the contract of `with_record`: the record at `at` is an item's (kind 3), or it is not
pub record Tallied (s : List ℕ) (at : ℕ) (t r : Tally) : Type 0 where
  pub within : Within r
  pub other : (le_at 2 s (at + 2) ≡ 3 → ⊥) → r ≡ t
  pub item_is : le_at 2 s (at + 2) ≡ 3 → {b : Book} → ItemStands s b t.count at → r ≡ with_item b.n (item (items_of b) t.count) t

-- what judging gives, without the sums
abbrev pub ended : Result Sums FaultAt → Scan
ended (Ok r) = Ok r.end
ended (Err f) = Err f

-- the sums of a book without a fault
pub record SumsOf (s : List ℕ) (r : Sums) : Type 0 where
  pub longest_high : r.longest < 256
  pub units_are : (b : Book) → AllowedBook b → bytes_of b ≡ s → r.units ≡ sum_units b.n (items_of b)
  pub longest_is : (b : Book) → AllowedBook b → bytes_of b ≡ s → r.longest ≡ largest_from 0 (items_of b)

-- the contract of `sum_up`
pub record SummedUp (s : List ℕ) (r : Result Sums FaultAt) : Type 0 where
  pub judged : ended r ≡ scan (cut s) 0 at_start
  pub bounded : IfOk (ended r) Limits
  pub sums : IfOk r (SumsOf s)
