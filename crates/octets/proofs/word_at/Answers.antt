-- Assumes nothing.
use Rattle.std.proofs.Common.{arith}
use Rattle.octets.proofs.Elements.{found_or_zero}
use Rattle.octets.proofs.word_at.Goals as goal

pub returns-clause-value : goal.returns-clause-value
returns-clause-value c = found_or_zero c.args.s.now c.args.i c.number_at.result c.number_at.ensures

pub returns-clause-upper_bound : goal.returns-clause-upper_bound
returns-clause-upper_bound c =
    omega (arith, found_or_zero c.args.s.now c.args.i c.number_at.result c.number_at.ensures, c.type_inv.s c.args.i)
