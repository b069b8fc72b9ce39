use Prim.Native.Nat.{◌+◌}
use native.Mathlib.Nat.{add-zero}
use native.Mathlib.Omega.{arith}
use mathlib.Core.Path.{◌∙◌}
use Rattle.reader.proofs.GoodMoves.{byte-between, le-between, good-move}
use Rattle.reader.proofs.passing.low_after.Goals as goal

pub returns-else-index-low : goal.returns-else-index-low
returns-else-index-low c =
    let a = c.args in
    good-move a.s.now a.at (λ i. omega (arith, c.type_inv.s i)) a.n a.m a.top a.low _ _ _ _
    (c.byte_at-state.ensures.value ∙ byte-between a.s.now a.at (a.at + 14) 4 (omega arith))
    (c.byte_at-command.ensures.value ∙ byte-between a.s.now a.at (a.at + 14) 5 (omega arith))
    (c.u64_at-mask.ensures ∙ le-between a.s.now a.at (a.at + 14) 6 (omega arith))
    (c.u64_at.ensures ∙ (rw (add-zero a.at) at (le-between a.s.now a.at (a.at + 14) 0 (omega arith))))
    c.if-u64_at-ne-MOVE_HEAD.false c.if-n-state.false c.if-m-command.false c.if-mask-eq0.false c.if-top-mask.false c.requires.3 c.if-index-low.false
