-- Storing the percepts that are left gives the whole. Assumes nothing.
use Rattle.std.proofs.Common.{◌≡◌, ◌+◌, ◌-◌, ◌*◌}
use Rattle.std.proofs.lemmas.List.Edits.{sets}
use Rattle.octets.specs.Parts.{piece}
use Rattle.runs.specs.RunBytes.{masks_bytes}
use Rattle.runs.proofs.put_percepts.Given as goal

abbrev pub invariant-loop-j : goal.invariant-loop-j
invariant-loop-j l = sets l.out (l.at + 8 * l.j) (masks_bytes (piece (l.k - l.j) l.percepts l.j)) ≡ sets l.fn.out l.at (masks_bytes (piece l.k l.percepts 0))
