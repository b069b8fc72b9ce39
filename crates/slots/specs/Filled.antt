-- A slot filled from an item's record, for every allowed book whose bytes these are. Assumes nothing: these are definitions.
use Rattle.std.specs.Prelude.{◌≡◌, List, ℕ, ◌+◌, ◌*◌, ◌<◌, length}
use Rattle.std.proofs.lemmas.List.Edits.{sets}
use Rattle.reversal.specs.Chains.{item}
use Rattle.book.specs.Book.{Book, items_of}
use Rattle.book.specs.Lent.{slot_of}
use Rattle.items.specs.declared.Parts.{Parts}
use Rattle.items.specs.Items.{Begins, ItemStands, PartsAt}

-- the contract of `fill`: bytes s with a record at `at`, the slots before and after, and the place of the next record
pub record SlotFilled (s : List ℕ) (at : ℕ) (slots : List ℕ) (a : ℕ) (slots' : List ℕ) (r : ℕ) : Type 0 where
  pub past : at < length s → at < r
  pub slot : {b : Book} {i : ℕ} → ItemStands s b i at → slots' ≡ sets slots (34 * a) (slot_of (item (items_of b) i))
  pub next : {b : Book} {i : ℕ} → ItemStands s b i at → Begins s b (i + 1) r

-- the contract of `fill_from`, and of `put` for a slot by itself: of a record whose parts are p, wherever it begins
abbrev pub FilledFrom : List ℕ → Parts → List ℕ → ℕ → List ℕ → Type 0
FilledFrom s p slots a slots' = (at : ℕ) → PartsAt s at p → SlotFilled s at slots a slots' p.next
