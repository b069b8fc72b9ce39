-- A wrong item stands among the book's items. Assumes nothing.
use Prim.Native.Nat.{ℕ, ◌<◌}
use lib.ListN.{length}
use Rattle.book.specs.Book.{Book, items_of}
use Rattle.checker.specs.declared.Reason.{Reason}
use Rattle.checker.specs.Checks.{WrongFor}

pub wrong_inside : {b : Book} {i : ℕ} {why : Reason} → WrongFor b i why → i < length (items_of b)
wrong_inside w = w.first.inside
