-- An item stored, and no more item. Assumes nothing.
use Rattle.std.proofs.Common.{◌∙◌, arith}
use Rattle.reader.proofs.Filling.{item-slotted, all-slotted}
use Rattle.reader.proofs.fill_slots.Goals as goal

pub loop-i-preserved : goal.loop-i-preserved
loop-i-preserved c =
    let k = c.loop-i.invariant in
    let m = c.in-Some.ensures.steps in
    let o = rw m.1 at c.fill_from.ensures in
    record {
      to_come = omega arith;
      same = m.0.0.0 ∙ k.same;
      slotting = λ b a e q. rw m.2 (item-slotted a e (k.slotting b a e q) k.same m.0.0 o);
    }

pub returns : goal.returns
returns c =
    let k = c.loop-i.invariant in
    record { items = λ b a e q. all-slotted a e (k.slotting b a e q) k.same _ k.to_come c.in-None.ensures.steps.0 }
