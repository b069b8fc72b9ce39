-- Two rows of commands and two masks, eight bytes each. Assumes nothing.
use Rattle.octets.proofs.Put.{each_byte}
use Rattle.slots.proofs.Laws.{parts_put}
use Rattle.slots.proofs.put_parts.Goals as goal

pub returns : goal.returns
returns c = λ x.
    let a = c.args in
    let e = c.start-q.ensures.value in
    parts_put a.slots.now (each_byte a.slots.now c.type_inv.slots) a.a a.k a.r x a.d.now _ _ _ _ _ _ _ _
    (rw e at c.u64_at.ensures) (rw e at c.u64_at-2.ensures) c.phi.ensures c.psi.ensures c.put_le.ensures c.put_le-2.ensures c.put_le-3.ensures c.put_le-4.ensures
