-- The records of the items passed begin at their places, and the next one where the walk is. Assumes nothing.
use Rattle.std.proofs.Common.{◌≡◌, ◌+◌, length}
use Rattle.book.specs.Book.{Book, AllowedBook, bytes_of}
use Rattle.items.proofs.Walk.{Passed}
use Rattle.items.proofs.places.Given as goal

abbrev pub invariant-loop-i : goal.invariant-loop-i
invariant-loop-i l =
    let walk = l.i-iterator.iter in
    record {
      size : length l.places ≡ 64;
      to_come : l.i-iterator.count + walk.n ≡ 64;
      same : walk.iter.book.now ≡ l.book;
      passed : (b : Book) → AllowedBook b → bytes_of b ≡ l.book → Passed l.book b l.places l.i-iterator.count walk.iter.at;
    }
