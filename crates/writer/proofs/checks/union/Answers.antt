-- Assumes nothing.
use Rattle.std.proofs.Common.{arith, ◌<◌}
use Rattle.std.proofs.lemmas.List.{get_or-take, length-take}
use Rattle.writer.proofs.Scans.{union-again}
use Rattle.writer.proofs.checks.union.Goals as goal

pub loop-states-preserved : goal.loop-states-preserved
loop-states-preserved c =
    let h : c.loop-states.states-index < c.args.k = omega (arith, length-take c.args.k c.args.t.now) in
    rw (get_or-take c.args.k c.args.t.now c.loop-states.states-index 0 h)
    (union-again c.args.t.now c.loop-states.states-index c.loop-states.all c.loop-states.invariant)
