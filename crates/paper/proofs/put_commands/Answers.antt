-- `paper::put_commands` meets its contract: one command more in its column, and blank columns at the end. Assumes nothing.
use Rattle.std.proofs.Common.{arith, ◌≡◌, ◌<◌, length, min}
use Rattle.std.proofs.lemmas.List.{take_more}
use Rattle.show.proofs.Texts.{added, same_part}
use Rattle.paper.specs.Contract.{reverse_in}
use Rattle.paper.proofs.Puts.{threes_more, commands_done}
use Rattle.paper.proofs.put_commands.Goals as goal

pub loop-x-preserved : goal.loop-x-preserved
loop-x-preserved c =
    let commands = reverse_in c.args.slots.now c.args.a in
    let h : c.loop-x.x < length commands = omega (arith, c.r.ensures.0) in (
      rw (take_more commands c.loop-x.x 0 h, ← c.reverse.ensures.0 h)
          (same_part (threes_more _ c.reverse.result) (added c.loop-x.invariant.0 (c.put_right.ensures.adds (omega arith)))),
      omega arith,
    )

pub returns-clause-adds : goal.returns-clause-adds
returns-clause-adds c =
    let commands = reverse_in c.args.slots.now c.args.a in
    let k : c.loop-x.x ≡ min (length commands) 8 = omega (arith, c.r.ensures.0) in
    let e : c.from.result ≡ c.loop-x.x = omega arith in
    commands_done commands c.loop-x.x k c.loop-x.invariant.0 (rw e at (c.put_spaces.ensures.adds (omega arith)))
