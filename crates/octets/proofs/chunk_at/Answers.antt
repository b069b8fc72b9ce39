-- Assumes nothing.
use Rattle.std.proofs.Common.{◌∙◌, length, arith}
use Rattle.std.proofs.lemmas.Slice.{between_to_end}
use Rattle.octets.proofs.Room.{chunk_of}
use Rattle.octets.proofs.chunk_at.Goals as goal

pub returns : goal.returns
returns g c =
    let h = c.in_ok-get.ensures.lookup.0 in
    chunk_of g.row.N c.args.s.now c.in_ok-get.field-0.now c.args.at c.first_chunk.result h.0
    (h.2 ∙ between_to_end c.args.s.now c.args.at (length c.args.s.now) (omega arith)) c.first_chunk.ensures.cases
