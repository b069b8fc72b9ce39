-- The moves that are left and the items stand where the walk is. Assumes nothing.
use Rattle.std.proofs.Common.{◌≡◌}
use Rattle.book.specs.Book.{Book, AllowedBook, bytes_of}
use Rattle.items.proofs.Walk.{Before}
use Rattle.items.proofs.first_item.Given as goal

abbrev pub invariant-loop : goal.invariant-loop
invariant-loop l =
    record {
      same : l.moves.book.now ≡ l.book;
      moves_left : (b : Book) → AllowedBook b → bytes_of b ≡ l.book → Before l.book b l.moves.at;
    }
