-- The items that are left give the whole of the slots, and stand where the walk is. Assumes nothing.
use Rattle.std.proofs.Common.{◌≡◌, ◌+◌}
use Rattle.book.specs.Book.{Book, AllowedBook, bytes_of}
use Rattle.book.specs.Buffers.{slots_of}
use Rattle.items.specs.Items.{Begins}
use Rattle.reader.proofs.Filling.{Slotting}
use Rattle.reader.proofs.fill_slots.Given as goal

abbrev pub invariant-loop-i : goal.invariant-loop-i
invariant-loop-i l =
    let walk = l.i-iterator.iter in
    let i = l.i-iterator.count in
    record {
      to_come : i + walk.n ≡ 64;
      same : walk.iter.book.now ≡ l.book;
      slotting : (b : Book) → AllowedBook b → bytes_of b ≡ l.book → Begins l.book b 0 l.first
          → Slotting l.book b (slots_of b l.fn.slots) walk.iter.at i l.slots;
    }
