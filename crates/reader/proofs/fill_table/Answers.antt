-- A move stored, and no more move. Assumes nothing.
use Rattle.std.proofs.Common.{◌∙◌, arith}
use Rattle.reader.proofs.Filling.{entering, move-entered, all-entered, table_filled, m_at}
use Rattle.reader.proofs.fill_table.Goals as goal

pub loop-at-init : goal.loop-at-init
loop-at-init c =
    let first = c.move_records-moves.ensures in
    record { same = first.book; entering = λ b a e. entering _ a (first.first_move.begins b a e) }

pub put_move-requires : goal.put_move-requires
put_move-requires c =
    let m = c.in-Some.ensures.steps in
    let inside = rw c.loop-at.invariant.same at m.1.1 in (omega arith, omega arith)

pub loop-at-preserved : goal.loop-at-preserved
loop-at-preserved c =
    let k = c.loop-at.invariant in
    let m = c.in-Some.ensures.steps in
    record {
      same = m.0 ∙ k.same;
      entering = λ b a e. move-entered k.same (k.entering b a e) a m _ _ (c.byte_at-m.ensures.value ∙ m_at _ b e) c.put_move.ensures;
    }

pub returns : goal.returns
returns c =
    let k = c.loop-at.invariant in
    table_filled _ _ _ _ _ _ _ c.byte_at-n.ensures.value c.byte_at-m.ensures.value c.clear.ensures
    (λ b a e. all-entered k.same (k.entering b a e) c.in_default.ensures.steps)
