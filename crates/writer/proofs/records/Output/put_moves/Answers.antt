-- Assumes nothing.
use Rattle.std.proofs.Common.{◌≡◌, ◌*◌, ◌-◌, arith, ◌∙◌, refl}
use native.Mathlib.Nat.{sub-zero, zero-mul}
use Rattle.octets.proofs.Turns.{rows_again, count-again, rows_done, count-done, rows_by}
use Rattle.writer.specs.Records.{moves_bytes}
use Rattle.writer.proofs.Stores.{same_room, row_below}
use Rattle.writer.proofs.Rows.{move_rows}
use Rattle.writer.proofs.records.Output.put_moves.Goals as goal

pub loop-state-init : goal.loop-state-init
loop-state-init c = (rw (sub-zero, zero-mul), rw (sub-zero, zero-mul), omega arith, refl)

pub put_row-requires : goal.put_row-requires
put_row-requires c =
    let a = c.args in
    let v = c.loop-state in
    let below = row_below c.loop-state.state c.args.n c.args.m c.loop-state-test.true in
    (omega arith, omega arith, omega (arith, below), omega (arith, below, same_room v.self.out.now a.self.now.out.now v.self.end a.self.now.end (moves_bytes ((a.n - v.state) * a.m) a.t.now (v.state * a.m) a.m) (moves_bytes (a.n * a.m) a.t.now 0 a.m) v.invariant.0))

pub loop-state-preserved : goal.loop-state-preserved
loop-state-preserved c =
    let a = c.args in
    let v = c.loop-state in
    let l = c.loop-state-test.true in
    let o = c.put_row.ensures in
    let rows = rows_by (move_rows a.t.now a.m) a.m in (
      rows_again rows a.n v.state _ _ _ v.self.end _ v.invariant.0 l o.adds.row o.adds.end,
      count-again rows a.n v.state v.self.end _ _ v.invariant.1 l o.adds.end,
      omega (arith, row_below v.state a.n a.m l),
      o.adds.same_row ∙ v.invariant.3,
    )

pub returns : goal.returns
returns c =
    let a = c.args in
    let v = c.loop-state in
    let rows = rows_by (move_rows a.t.now a.m) a.m in
    let l = c.loop-state-test.false in
    let e : v.state ≡ a.n = omega arith in
    record {
      adds = record {
        same_row = v.invariant.3;
        row = rows_done rows a.n v.state _ _ v.self.end v.invariant.0 l;
        end = count-done rows a.n v.state v.self.end _ v.invariant.1 l;
      };
      upper_bound = rw e at v.invariant.2;
    }
