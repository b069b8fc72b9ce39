use native.Mathlib.Omega.{arith}
use Prim.Native.Nat.{◌<◌}
use Rattle.base.specs.Lists.{Bytes}
use Rattle.base.proofs.Lists.{each_of}
use Rattle.book.proofs.Lent.{same-buffers}
use Rattle.reader.proofs.Ways.{into_fault, into_book}
use Rattle.reader.proofs.read_into.Goals as goal

pub returns-in_err-end : goal.returns-in_err-end
returns-in_err-end c =
    let bytes : Bytes c.args.book.now = each_of (λ x. x < 256) c.args.book.now 0 (λ i h. omega (arith, c.type_inv.book i)) in
    into_fault c.from_residual.result bytes (omega arith, (omega arith, (omega arith, tt)))
    c.from_residual.ensures.1 c.in_err-end.ensures.value

pub returns : goal.returns
returns c =
    let bytes : Bytes c.args.book.now = each_of (λ x. x < 256) c.args.book.now 0 (λ i h. omega (arith, c.type_inv.book i)) in
    into_book c.in_ok-end.end bytes (omega arith, (omega arith, (omega arith, tt)))
    c.in_ok-end.ensures.value c.in_ok-end.ensures.bounded
    (λ b a e. let first = c.fill_table-first.ensures.begins b a e in same-buffers (c.fill_table-first.ensures.entries b a e) (c.fill_slots.ensures.items b a e first) (c.fill_weights.ensures.each b a e))
