-- The record's parts, one after the other. Assumes nothing.
use Rattle.std.proofs.Common.{ap, ◌∙◌, arith, refl}
use Rattle.std.proofs.lemmas.List.Edits.{sets}
use Rattle.octets.specs.Le.{bytes_le}
use Rattle.octets.proofs.Put.{first, then}
use Rattle.writer.proofs.Stores.{move_record}
use Rattle.writer.proofs.records.put_move.Goals as goal

pub returns : goal.returns
unfolding bytes_le
returns c =
    let a = c.args in
    (then (then (then (then (first a.d.now 0 (bytes_le 2 10) c.put_le.ensures)
    2 (bytes_le 2 2) refl c.put_le-2.ensures)
    4 (bytes_le 1 a.state) refl c.put_le-3.ensures)
    5 (bytes_le 1 a.command) refl c.put_le-4.ensures)
    6 (bytes_le 8 a.mask) refl c.put_le-5.ensures).is
    ∙ ap (sets a.d.now 0) (move_record a.state a.command a.mask (omega arith) (omega arith))
