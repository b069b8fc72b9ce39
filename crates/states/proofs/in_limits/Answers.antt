-- `in_limits`, computed. Assumes nothing.
use borrow.Author.Tests.{le-leb, lt-leb}
use Rattle.base.specs.Tests.{both}
use Rattle.states.specs.StateSets.{in_limits}
use Rattle.states.proofs.in_limits.Goals as goal

pub returns-then-n-le64 : goal.returns-then-n-le64
unfolding in_limits both
returns-then-n-le64 g c = rw (← c.n.ensures, ← c.m.ensures, le-leb c.n.result 64 c.if-n-le64.true)

pub returns-else-n-le64 : goal.returns-else-n-le64
unfolding in_limits both
returns-else-n-le64 g c = rw (← c.n.ensures, lt-leb c.n.result 64 c.if-n-le64.false)
