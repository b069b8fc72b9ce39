-- Assumes nothing.
use Rattle.std.proofs.Common.{arith, ap, ◌∙◌, ℕ, ◌+◌, ◌*◌, get_or}
use Rattle.std.proofs.lemmas.List.Edits.{sets}
use native.Mathlib.Nat.{sub-zero, add-zero}
use Rattle.octets.specs.Le.{bytes_le}
use Rattle.octets.proofs.Le.{length-bytes_le}
use Rattle.octets.proofs.Turns.{rows_again, rows_done}
use Rattle.writer.proofs.Rows.{weight_rows}
use Rattle.writer.proofs.records.put_each.Goals as goal

pub loop-i-init : goal.loop-i-init
loop-i-init c = rw (sub-zero, add-zero)

pub loop-i-preserved : goal.loop-i-preserved
loop-i-preserved c =
    let a = c.args in
    let v = c.loop-i in
    rows_again (weight_rows a.w.now) a.k v.i _ _ _ (a.at + 2 * v.i) _ v.invariant c.loop-i-test.true
    (c.put_le.ensures ∙ ap (λ (y : ℕ). sets v.d (a.at + 2 * v.i) (bytes_le 2 y)) c.word_at.ensures.value)
    (omega (arith, length-bytes_le 2 (get_or a.w.now v.i 0)))

pub returns : goal.returns
returns c = rows_done (weight_rows c.args.w.now) c.args.k c.loop-i.i _ _ _ c.loop-i.invariant c.loop-i-test.false
