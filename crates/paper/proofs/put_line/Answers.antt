-- `paper::put_line` meets its contract: the numbers, the commands, a newline. Assumes nothing.
use Rattle.std.proofs.Common.{arith, ◌+◌}
use Rattle.paper.specs.Contract.{reverse_in}
use Rattle.paper.proofs.Puts.{numbers_put, line_read}
use Rattle.paper.proofs.put_line.Goals as goal

pub returns-clause-adds : goal.returns-clause-adds
returns-clause-adds c =
    line_read (reverse_in c.args.slots.now) c.args.legs.now c.args.i c.byte_at-item.result c.byte_at-upper.result c.byte_at-lower.result c.r.result
    c.byte_at-item.ensures.value c.byte_at-upper.ensures.value c.byte_at-lower.ensures.value c.r.ensures.0
    (numbers_put (c.args.i + 1) c.byte_at-upper.result c.byte_at-lower.result c.byte_at-item.result c.r.result
    (c.put_right.ensures.adds (omega arith)) (c.put_right-2.ensures.adds (omega arith)) (c.put_right-3.ensures.adds (omega arith))
    (rw c.from.ensures at (c.put_right-4.ensures.adds (omega arith))) (c.put_right-5.ensures.adds (omega arith)))
    c.put_commands.ensures.adds (c.put_byte.ensures.adds (omega arith))
