-- The rows give the outcomes of the moves passed; those left stand where the walk is. Assumes nothing.
use Rattle.std.proofs.Common.{◌≡◌, ◌≤◌, length, drop}
use Rattle.book.specs.Book.{Book, AllowedBook, bytes_of}
use Rattle.moves.proofs.Indexing.{Indexing}
use Rattle.moves.proofs.index.Given as goal

abbrev pub invariant-loop-at : goal.invariant-loop-at
invariant-loop-at l =
    record {
      same : l.at-iterator.book.now ≡ l.book;
      room : 64 ≤ length l.masks;
      rest : drop 64 l.masks ≡ drop 64 l.fn.masks;
      indexing : (b : Book) → AllowedBook b → bytes_of b ≡ l.book → Indexing l.book b l.at-iterator.at l.masks;
    }
