-- `show::Text::put_field` meets its contract: a number, and one byte after it. Assumes nothing.
use Rattle.std.proofs.Common.{arith}
use Rattle.show.proofs.Texts.{added, same_part, unpadded_is}
use Rattle.show.proofs.Text.put_field.Goals as goal

pub returns-clause-adds : goal.returns-clause-adds
returns-clause-adds c = added (same_part (unpadded_is c.args.n) (c.put_right.ensures.adds (omega arith))) (c.put_byte.ensures.adds (omega arith))
