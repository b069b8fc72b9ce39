-- Assumes nothing.
use Rattle.std.proofs.Common.{◌∙◌, sym}
use borrow.Author.Tests.{lt-leb}
use Rattle.octets.proofs.Bytes.{eight_of}
use Rattle.octets.proofs.LeAt.{whole_in, whole_out}
use Rattle.octets.proofs.whole_at.Goals as goal

pub returns-in_default : goal.returns-in_default
returns-in_default c = sym (whole_out c.args.s.now c.args.at (lt-leb _ _ c.in_default.ensures))

pub returns : goal.returns
returns c =
    c.from_le_bytes.ensures
    ∙ (eight_of c.args.s.now c.in-Some.bytes.now c.args.at c.in-Some.ensures.1 ∙ sym (whole_in c.args.s.now c.args.at c.in-Some.ensures.0))
