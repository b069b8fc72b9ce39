-- Assumes nothing.
use Rattle.std.proofs.Common.{arith, ◌-◌, ◌∙◌, refl}
use native.Mathlib.Nat.{sub-zero}
use Rattle.octets.proofs.Turns.{rows_again, count-again, rows_done, count-done}
use Rattle.writer.specs.Records.{items_bytes}
use Rattle.writer.proofs.Stores.{same_room}
use Rattle.writer.proofs.Rows.{item_rows}
use Rattle.writer.proofs.records.Output.put_items.Goals as goal

pub loop-i-init : goal.loop-i-init
loop-i-init c = (rw sub-zero, rw sub-zero, omega arith, refl)

pub put_item-requires : goal.put_item-requires
put_item-requires c =
    let a = c.args in
    let v = c.loop-i in
    let fine = c.requires.3 in
    (omega arith, fine.forward v.i (omega arith), fine.reverse v.i (omega arith), omega (arith, same_room v.self.out.now a.self.now.out.now v.self.end a.self.now.end (items_bytes (a.c - v.i) a.s.now v.i) (items_bytes a.c a.s.now 0) v.invariant.0))

pub loop-i-preserved : goal.loop-i-preserved
loop-i-preserved c =
    let a = c.args in
    let v = c.loop-i in
    let o = c.put_item.ensures in
    let rows = item_rows a.s.now in
    let l = c.loop-i-test.true in (
      rows_again rows a.c v.i _ _ _ v.self.end _ v.invariant.0 l o.adds.row o.adds.end,
      count-again rows a.c v.i v.self.end _ _ v.invariant.1 l o.adds.end,
      omega arith,
      o.adds.same_row ∙ v.invariant.3,
    )

pub returns : goal.returns
returns c =
    let a = c.args in
    let v = c.loop-i in
    let rows = item_rows a.s.now in
    let l = c.loop-i-test.false in
    record { adds = record { same_row = v.invariant.3; row = rows_done rows a.c v.i _ _ v.self.end v.invariant.0 l; end = count-done rows a.c v.i v.self.end _ v.invariant.1 l } }
