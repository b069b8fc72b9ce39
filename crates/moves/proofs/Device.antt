-- The device in a book's bytes and their index is the device of the book. Assumes nothing.
use mathlib.Core.Path.{◌≡◌}
use mathlib.Core.List.{List}
use Prim.Native.Nat.{ℕ, ◌<◌}
use lib.ListN.{get_or}
use Rattle.book.specs.Book.{Book, outcome_of, device_of, AllowedBook}
use Rattle.book.proofs.Device.{device_as}
use Rattle.moves.specs.Moves.{moved_to, indexed, moved}

pub moved-device : (b : Book) (s masks : List ℕ) → AllowedBook b
    → ((q c : ℕ) → q < b.n → c < b.m → moved_to s (get_or masks q 0) c ≡ outcome_of b.moves q c) → moved s b.n b.m masks ≡ device_of b
unfolding indexed
moved-device b s masks a f = device_as b (λ q c. moved_to s (get_or masks q 0) c) a f
