-- Assumes nothing.
use Rattle.std.proofs.Common.{◌∙◌}
use Rattle.octets.proofs.Bytes.{eight_of}
use Rattle.octets.proofs.u64_at.Goals as goal

pub returns : goal.returns
returns c = c.from_le_bytes.ensures ∙ eight_of c.args.s.now c.bytes_at-bytes.result c.args.at c.bytes_at-bytes.ensures
