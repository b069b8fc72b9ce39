-- The slot lies at the beginning of the rest, or is a part by itself. Assumes nothing.
use Rattle.std.proofs.Common.{refl, arith}
use Rattle.slots.proofs.Laws.{filled-in_rest, filled-whole}
use Rattle.slots.proofs.fill_from.Goals as goal

pub returns-then-slots-q : goal.returns-then-slots-q
returns-then-slots-q c at p = filled-in_rest (c.put.ensures at p) (omega arith) refl

pub returns : goal.returns
returns c at p = filled-whole (c.put-2.ensures at p) c.start-q.ensures.value (omega arith) (omega arith)
