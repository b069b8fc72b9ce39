-- Assumes nothing.
use Rattle.std.proofs.Common.{arith, ◌+◌, ◌*◌, get_or}
use native.Mathlib.Nat.{sub-zero, add-zero}
use Rattle.octets.proofs.Le.{length-bytes_le}
use Rattle.octets.proofs.Turns.{rows_again, rows_done}
use Rattle.runs.proofs.Writing.{percept_rows}
use Rattle.runs.proofs.put_percepts.Goals as goal

pub loop-j-init : goal.loop-j-init
loop-j-init c = rw (sub-zero, add-zero)

pub loop-j-preserved : goal.loop-j-preserved
loop-j-preserved c =
    let a = c.args in
    let v = c.loop-j in
    rows_again (percept_rows a.percepts.now) a.k v.j _ _ _ (a.at + 8 * v.j) _ v.invariant c.loop-j-test.true c.put_le.ensures
    (omega (arith, length-bytes_le 8 (get_or a.percepts.now v.j 0)))

pub returns : goal.returns
returns c =
    let v = c.loop-j in
    rows_done (percept_rows c.args.percepts.now) c.args.k v.j _ _ (c.args.at + 8 * v.j) v.invariant c.loop-j-test.false
