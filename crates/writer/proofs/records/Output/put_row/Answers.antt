-- Assumes nothing.
use Rattle.std.proofs.Common.{arith, ◌≡◌, List, ℕ, ◌+◌, ◌*◌, ◌-◌, ◌<◌, ◌≤◌, ◌∙◌, refl, length, get_or, drop}
use lib.ListN.{length-drop}
use lib.Seq.{length-take-le}
use Rattle.std.specs.List.{between}
use Rattle.std.proofs.lemmas.List.Edits.{get_or-between}
use native.Mathlib.Nat.{sub-zero, add-zero}
use Rattle.octets.proofs.Turns.{rows_again, count-again, rows_done, count-done, rows_from}
use Rattle.writer.specs.Records.{moves_bytes}
use Rattle.writer.proofs.Stores.{same_room, cells_below}
use Rattle.writer.proofs.Rows.{move_rows, entry-is}
use Rattle.writer.proofs.records.Output.put_row.Goals as goal

-- the entries of a state
row_size : (t : List ℕ) (state m : ℕ) → state * m + m ≤ length t → length (between (state * m) (state * m + m) t) ≡ m
row_size t state m h =
    let k : state * m + m - state * m ≡ m = omega arith in
    length-take-le (state * m + m - state * m) (drop (state * m) t) (omega (arith, length-drop (state * m) t)) ∙ k

row_entry : (t : List ℕ) (state m command : ℕ) → command < m → get_or (between (state * m) (state * m + m) t) command 0 ≡ get_or t (state * m + command) 0
row_entry t state m command h = get_or-between t (state * m) (state * m + m) command 0 (omega arith)

pub overflow_mul-first : goal.overflow_mul-first
overflow_mul-first c = omega (arith, cells_below c.args.state c.args.m (omega arith))

pub loop-command-init : goal.loop-command-init
loop-command-init c = (rw (sub-zero, add-zero), rw (sub-zero, add-zero), omega arith, refl)

pub put_entry-requires : goal.put_entry-requires
put_entry-requires c =
    let a = c.args in
    let v = c.loop-command in
    (omega (arith, same_room v.self.out.now a.self.now.out.now v.self.end a.self.now.end (moves_bytes (a.m - v.command) a.t.now (a.state * a.m + v.command) a.m) (moves_bytes a.m a.t.now (a.state * a.m) a.m) v.invariant.0), omega arith, omega arith)

pub loop-command-preserved : goal.loop-command-preserved
loop-command-preserved c =
    let a = c.args in
    let v = c.loop-command in
    let size = row_size a.t.now a.state a.m (omega arith) in
    let l : v.command < a.m = omega (arith, c.loop-command-test.true, size) in
    let o = c.put_entry.ensures in
    let rows = rows_from (move_rows a.t.now a.m) (a.state * a.m) in
    let e = entry-is a.t.now a.m a.state v.command _ l (row_entry a.t.now a.state a.m v.command l) in (
      rows_again rows a.m v.command _ _ _ v.self.end _ v.invariant.0 l (rw (← e) o.adds.row) (rw (← e) o.adds.end),
      count-again rows a.m v.command v.self.end _ _ v.invariant.1 l (rw (← e) o.adds.end),
      omega arith,
      o.adds.same_row ∙ v.invariant.3,
    )

pub returns : goal.returns
returns c =
    let a = c.args in
    let v = c.loop-command in
    let rows = rows_from (move_rows a.t.now a.m) (a.state * a.m) in
    let l : a.m ≤ v.command = omega (arith, c.loop-command-test.false, row_size a.t.now a.state a.m (omega arith)) in
    record {
      adds = record {
        same_row = v.invariant.3;
        row = rows_done rows a.m v.command _ _ v.self.end v.invariant.0 l;
        end = count-done rows a.m v.command v.self.end _ v.invariant.1 l;
      };
      upper_bound = omega arith;
    }
