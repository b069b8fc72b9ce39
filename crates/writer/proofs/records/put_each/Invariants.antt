-- Storing the weights that are left gives the whole. Assumes nothing.
use Rattle.std.proofs.Common.{◌≡◌, ◌+◌, ◌-◌, ◌*◌}
use Rattle.std.proofs.lemmas.List.Edits.{sets}
use Rattle.octets.specs.Parts.{piece}
use Rattle.book.specs.Book.{two_bytes}
use Rattle.writer.proofs.records.put_each.Given as goal

abbrev pub invariant-loop-i : goal.invariant-loop-i
invariant-loop-i l = sets l.d (l.at + 2 * l.i) (two_bytes (piece (l.k - l.i) l.w l.i)) ≡ sets l.fn.d l.at (two_bytes (piece l.k l.w 0))
