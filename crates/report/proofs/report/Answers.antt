-- `report::report` meets its contract: the parts lent to `assemble` are the bytes that are judged. Assumes nothing.
use Rattle.std.proofs.Common.{arith}
use Rattle.report.proofs.Exactly.{reported}
use Rattle.report.proofs.report.Goals as goal

pub returns : goal.returns
returns c = reported (omega arith) (omega arith) c.assemble-r.ensures c.lines.ensures.out_after c.lines.ensures.value c.lines.ensures.upper_bound
