-- The weights that are left give the whole. Assumes nothing.
use Rattle.std.proofs.Common.{◌≡◌, length}
use Rattle.book.specs.Book.{Book, AllowedBook, bytes_of}
use Rattle.book.specs.Buffers.{weights_left}
use Rattle.reader.proofs.Filling.{Weighing}
use Rattle.reader.proofs.fill_weights.Given as goal

abbrev pub invariant-loop-command : goal.invariant-loop-command
invariant-loop-command l =
    record {
      size : length l.weights ≡ length l.fn.weights;
      weighing : (b : Book) → AllowedBook b → bytes_of b ≡ l.book → Weighing b (weights_left b l.fn.weights) l.command l.weights;
    }
