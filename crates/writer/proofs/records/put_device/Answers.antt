-- The record's parts, one after the other. Assumes nothing.
use Rattle.std.proofs.Common.{ap, ◌∙◌, arith, refl}
use Rattle.std.proofs.lemmas.List.Edits.{sets}
use Rattle.octets.specs.Le.{bytes_le}
use Rattle.octets.proofs.Put.{first, then}
use Rattle.writer.proofs.Stores.{device_record}
use Rattle.writer.proofs.records.put_device.Goals as goal

pub returns : goal.returns
unfolding bytes_le
returns c =
    let a = c.args in
    (then (then (then (first a.d.now 0 (bytes_le 2 2) c.put_le.ensures)
    2 (bytes_le 2 1) refl c.put_le-2.ensures)
    4 (bytes_le 1 a.n) refl c.put_le-3.ensures)
    5 (bytes_le 1 a.m) refl c.put_le-4.ensures).is
    ∙ ap (sets a.d.now 0) (device_record a.n a.m (omega arith) (omega arith))
