-- Fewer than eight commands, or eight. Assumes nothing.
use Rattle.std.proofs.Common.{◌≡◌, ◌*◌, arith}
use Rattle.base.proofs.Masks.{shl_one}
use Rattle.octets.proofs.Put.{each_byte}
use Rattle.slots.proofs.Commands.{fewer_commands, eight-commands}
use Rattle.slots.proofs.commands_at.Goals as goal

pub returns-then-count-lt8 : goal.returns-then-count-lt8
returns-then-count-lt8 c =
    let a = c.args in
    rw (shl_one (8 * a.count) (omega arith))
    (fewer_commands a.book.now (each_byte a.book.now c.type_inv.book) a.p c.u64_at-eight.result c.u64_at-eight.ensures a.count (omega arith))

pub returns-else-count-lt8 : goal.returns-else-count-lt8
returns-else-count-lt8 c =
    let a = c.args in
    let e : a.count ≡ 8 = omega arith in
    rw e (eight-commands a.book.now (each_byte a.book.now c.type_inv.book) a.p c.u64_at-eight.result c.u64_at-eight.ensures)
