-- Assumes nothing.
use Rattle.std.proofs.Common.{◌∙◌}
use Rattle.octets.proofs.Bytes.{two_of}
use Rattle.octets.proofs.u16_at.Goals as goal

pub returns-clause-value : goal.returns-clause-value
returns-clause-value c = c.from.ensures ∙ (c.from_le_bytes.ensures ∙ two_of c.args.s.now c.bytes_at.result c.args.at c.bytes_at.ensures)
