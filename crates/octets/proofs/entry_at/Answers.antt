-- Assumes nothing.
use Rattle.octets.proofs.Elements.{found_or_zero}
use Rattle.octets.proofs.entry_at.Goals as goal

pub returns : goal.returns
returns c = found_or_zero c.args.s.now c.args.i c.number_at.result c.number_at.ensures
