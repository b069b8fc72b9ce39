-- Storing what is left gives the whole. Assumes nothing.
use Rattle.std.proofs.Common.{◌≡◌, ◌-◌, length}
use Rattle.std.proofs.lemmas.List.Edits.{sets}
use Rattle.octets.specs.Le.{bytes_le}
use Rattle.octets.proofs.put_all.Given as goal

abbrev pub invariant-loop-b : goal.invariant-loop-b
invariant-loop-b l = sets l.d l.b-index (bytes_le (length l.fn.d - l.b-index) l.rest) ≡ bytes_le (length l.fn.d) l.fn.v
