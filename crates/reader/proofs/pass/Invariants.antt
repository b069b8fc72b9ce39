-- what is left to judge gives the whole, and what is left of the items gives their sums. In the loop `here` is a tuple, its state and its place.
use Rattle.std.proofs.Common.{◌≡◌, ◌-◌, ◌≤◌, true, length, drop}
use Rattle.book.specs.Book.{Book, AllowedBook, bytes_of}
use Rattle.book.specs.Parse.{cut, scan, at_start}
use Rattle.reader.specs.Judged.{Limits}
use Rattle.reader.specs.Summing.{Within}
use Rattle.reader.proofs.Summing.{Summing}
use Rattle.reader.proofs.pass.Given as goal

abbrev pub invariant-loop-next : goal.invariant-loop-next
invariant-loop-next l = record {
  same : scan (cut (drop l.here.1.0 l.book)) l.here.1.0 l.here.0 ≡ scan (cut l.book) 0 at_start;
  limits : Limits l.here.0;
  within : l.here.1.0 ≤ length l.book;
  few : Within l.tally;
  left : l.summing ≡ true → (b : Book) → AllowedBook b → bytes_of b ≡ l.book → Summing l.book b l.here.1.0 l.tally;
}

abbrev pub decreases-loop-next : goal.decreases-loop-next
decreases-loop-next l = length l.book - l.here.1.0
