-- The bytes that the writer's functions store, in the code's order; proofs/ ties them to `bytes_of`. Assumes nothing: these are definitions.
use Rattle.std.specs.Prelude.{List, [], ◌++◌, map, ℕ, ◌+◌, ◌<◌, ◌≤◌, length, get_or}
use Rattle.base.specs.Tests.{pick}
use Rattle.base.specs.Compare.{same}
use Rattle.octets.specs.Le.{bytes_le}
use Rattle.book.specs.Book.{Move, frame, framed, move_rec, item_rec}
use Rattle.book.specs.Slots.{item_at}
use Rattle.book.specs.Buffers.{move_at, moves_from, items_from}

abbrev pub move : ℕ → ℕ → ℕ → Move
move state command mask = record { state = state; command = command; mask = mask }

-- the record of an entry, where its mask is not 0
unfoldable pub entry_row : ℕ → ℕ → ℕ → List ℕ
entry_row mask state command = pick (same mask 0) [] (frame (move_rec (move state command mask)))

-- the same of entry i of a table
unfoldable pub entry_bytes : List ℕ → ℕ → ℕ → List ℕ
entry_bytes t i m = pick (same (get_or t i 0) 0) [] (frame (move_rec (move_at t i m)))

-- the records of the k entries from i on
unfoldable pub moves_bytes : ℕ → List ℕ → ℕ → ℕ → List ℕ
moves_bytes k t i m = framed (map move_rec (moves_from k t i m))

-- the record of an item before its commands and masks, which are `parts_of`
unfoldable pub item_head : ℕ → ℕ → List ℕ
item_head k r = bytes_le 2 (18 + k + r) ++ bytes_le 2 3 ++ bytes_le 1 k ++ bytes_le 1 r

-- the records of the c slots from slot i on
unfoldable pub items_bytes : ℕ → List ℕ → ℕ → List ℕ
items_bytes c s i = framed (map item_rec (items_from c s i))

-- the item in each of the first c slots has at most 8 commands each way
pub record CountsFine (c : ℕ) (s : List ℕ) : Type 0 where
  pub forward : (i : ℕ) → i < c → length (item_at s i).forward ≤ 8
  pub reverse : (i : ℕ) → i < c → length (item_at s i).reverse ≤ 8
