-- `fill_legs` meets its contract: one struct more, and all of them. Assumes nothing.
use Rattle.planner.proofs.Structs.{legs-again, legs-done}
use Rattle.planner.proofs.fill_legs.Goals as goal

pub loop-i-preserved : goal.loop-i-preserved
loop-i-preserved c =
    legs-again c.args.count c.args.bytes.now _ c.loop-i.i c.loop-i.legs c.from.result c.loop-i.invariant c.from.ensures c.loop-i-test.true

pub returns : goal.returns
returns c = legs-done c.args.count c.args.bytes.now _ c.loop-i.i c.loop-i.legs c.loop-i.invariant c.loop-i-test.false
