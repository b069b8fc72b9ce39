-- The record's parts, one after the other. Assumes nothing.
use Rattle.std.proofs.Common.{◌≡◌, sym, ap, ◌∙◌, arith, ℕ, ◌*◌, ◌++◌, length, length-append}
use Rattle.std.proofs.lemmas.List.Edits.{sets}
use Rattle.octets.specs.Le.{bytes_le}
use Rattle.octets.specs.Parts.{piece}
use Rattle.octets.proofs.Le.{length-bytes_le}
use Rattle.octets.proofs.Put.{first, then, length-piece}
use Rattle.book.specs.Book.{two_bytes, weights_rec}
use Rattle.book.proofs.Bodies.{weights_length}
use Rattle.book.proofs.Scanning.{length-frame}
use Rattle.writer.proofs.Stores.{weights_record, no_record, one_record}
use Rattle.writer.proofs.records.put_weights.Goals as goal

pub returns-then-all_one : goal.returns-then-all_one
returns-then-all_one c =
    let a = c.args in
    let none = no_record (piece a.m a.w.now 0) (sym c.all_one.ensures ∙ c.if-all_one.true) in
    record { d_after = sym (ap (sets a.d.now 6) none); value = omega (arith, ap length none); upper_bound = omega arith }

pub returns : goal.returns
returns c =
    let a = c.args in
    let ws = piece a.m a.w.now 0 in
    let size : length ws ≡ a.m = length-piece a.m a.w.now 0 in
    let one = one_record ws (sym c.all_one.ensures ∙ c.if-all_one.false) in
    let h = bytes_le 2 (2 * a.m) in
    let k = bytes_le 2 5 in
    let l = length-bytes_le 2 (2 * a.m) in
    record {
      d_after =
          (then (then (first a.d.now 6 h c.put_le.ensures)
          8 k (omega arith) c.put_le-2.ensures)
          10 (two_bytes ws) (omega (arith, length-append h k, length-bytes_le 2 5)) c.put_each.ensures).is
          ∙ ap (sets a.d.now 6) (ap (λ (n : ℕ). bytes_le 2 (2 * n) ++ k ++ two_bytes ws) (sym size) ∙ weights_record ws ∙ sym one);
      value = omega (arith, ap length one, length-frame (weights_rec ws), weights_length ws);
      upper_bound = omega arith;
    }
