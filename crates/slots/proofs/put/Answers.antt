-- No item stands there; or two stores are the head of a slot, and three its tail. Assumes nothing.
use Rattle.std.proofs.Common.{arith}
use Rattle.slots.proofs.Laws.{none_filled, head_put, tail_put, item-filled}
use Rattle.slots.proofs.put.Goals as goal

pub returns-then-item-gt8 : goal.returns-then-item-gt8
returns-then-item-gt8 c at p = none_filled p _ 0 (λ h l. omega arith)

pub returns : goal.returns
returns c at p =
    let k = c.if-item-gt8.false in
    item-filled p _ 0 _ _ c.phi-phi.ensures c.psi-psi.ensures _ _ k
    (head_put _ _ _ 0 _ _ _ _ c.args.item.k k c.if-item-gt8-2.false c.commands_at-forward.ensures c.put_le.ensures c.put_le-2.ensures)
    (tail_put _ _ _ 10 _ _ _ _ _ _ _ c.commands_at-reverse.ensures c.put_le-3.ensures c.put_le-4.ensures c.put_le-5.ensures)
