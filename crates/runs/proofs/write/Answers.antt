-- Assumes nothing.
use Rattle.std.proofs.Common.{arith, ◌≤◌, length}
use Rattle.runs.proofs.Writing.{length-written, fine-written}
use Rattle.runs.proofs.write.Goals as goal

pub returns-clause-value : goal.returns-clause-value
returns-clause-value c =
    let a = c.args in
    let long : 301 ≤ length a.out.now = omega arith in
    fine-written a.count a.commands.now a.percepts.now (omega arith) (omega arith) (omega arith) _ 0 a.out.now long
    (length-written a.count a.commands.now a.percepts.now (omega arith) (omega arith) (omega arith))
