-- Assumes nothing.
use Rattle.std.proofs.Common.{arith}
use Rattle.std.proofs.lemmas.Bool.Decides.{nat_tests}
use Rattle.base.specs.Tests.{pick}
use Rattle.base.specs.Compare.{less, differ}
use Rattle.runs.specs.Computed.{run_faulty}
use Rattle.runs.proofs.Reading.{commands-judged}
use Rattle.runs.proofs.run_fine.Goals as goal

pub returns-then-all_below : goal.returns-then-all_below
unfolding run_faulty pick less differ
returns-then-all_below c =
    let e = commands-judged c.args.m c.args.run.now c.last_point-i.result c.all_below.result c.all_below.ensures c.last_point-i.ensures.value (omega arith) in
    grind (arith, nat_tests)

pub returns-else-all_below : goal.returns-else-all_below
unfolding run_faulty pick less differ
returns-else-all_below c =
    let e = commands-judged c.args.m c.args.run.now c.last_point-i.result c.all_below.result c.all_below.ensures c.last_point-i.ensures.value (omega arith) in
    grind (arith, nat_tests)
