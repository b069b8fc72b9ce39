-- All zeros are stored over. Assumes nothing.
use Rattle.std.proofs.Common.{◌∙◌, sym, replicate}
use Rattle.std.proofs.lemmas.List.{length-replicate}
use Rattle.octets.specs.Parts.{piece}
use Rattle.octets.proofs.Put.{length-piece}
use Rattle.octets.proofs.Room.{sets_all}
use Rattle.octets.proofs.bytes_at.Goals as goal

pub returns : goal.returns
returns g c =
    c.copy_part.ensures
    ∙ sets_all (replicate g.row.N 0) (piece g.row.N c.args.s.now c.args.at)
    (length-piece g.row.N c.args.s.now c.args.at ∙ sym (length-replicate g.row.N 0))
