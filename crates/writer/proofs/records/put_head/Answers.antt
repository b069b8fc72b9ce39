-- The record's parts, one after the other. Assumes nothing.
use Rattle.std.proofs.Common.{◌+◌, refl}
use Rattle.octets.specs.Le.{bytes_le}
use Rattle.writer.specs.Records.{item_head}
use Rattle.octets.proofs.Put.{first, then}
use Rattle.writer.proofs.records.put_head.Goals as goal

pub returns : goal.returns
unfolding item_head bytes_le
returns c =
    let a = c.args in
    (then (then (then (first a.d.now 0 (bytes_le 2 (18 + a.k + a.r)) c.put_le.ensures)
    2 (bytes_le 2 3) refl c.put_le-2.ensures)
    4 (bytes_le 1 a.k) refl c.put_le-3.ensures)
    5 (bytes_le 1 a.r) refl c.put_le-4.ensures).is
