-- The moves that are left give the whole table, and stand where the walk is. Assumes nothing.
use Rattle.std.proofs.Common.{◌≡◌}
use Rattle.book.specs.Book.{Book, AllowedBook, bytes_of}
use Rattle.book.specs.Buffers.{filled}
use Rattle.reader.proofs.Filling.{Entering}
use Rattle.reader.proofs.fill_table.Given as goal

abbrev pub invariant-loop-at : goal.invariant-loop-at
invariant-loop-at l =
    record {
      same : l.moves.book.now ≡ l.book;
      entering : (b : Book) → AllowedBook b → bytes_of b ≡ l.book → Entering l.book b (filled b.m b.moves l.initial.table) l.moves.at l.table;
    }
