-- Each return is the first test that decides. Assumes nothing.
use Rattle.std.proofs.Common.{not, ap, arith}
use Rattle.slots.proofs.Tests.{too_short, counts_wrong, fields_wrong, unused-wrong, unused_decides}
use Rattle.slots.proofs.fine_by_bytes.Goals.{then-not-fields_fine-via-then-not-fields_fine, then-not-fields_fine-via-else-not-fields_fine+then-not-all_below}
use Rattle.slots.proofs.fine_by_bytes.Goals as goal

pub returns-then-slots-q : goal.returns-then-slots-q
returns-then-slots-q c = too_short c.args.n c.args.m c.args.slots.now c.args.a (omega arith)

pub returns-then-not-counts_fine : goal.returns-then-not-counts_fine
returns-then-not-counts_fine c =
    let a = c.args in
    let e = c.start-q.ensures.value in
    counts_wrong a.n a.m a.slots.now a.a (omega arith) _ _ (rw e at c.byte_at-k.ensures.value) (rw e at c.byte_at-r.ensures.value) _
    c.counts_fine.ensures (ap not c.if-not-counts_fine.true)

pub returns-then-not-fields_fine : goal.returns-then-not-fields_fine
returns-then-not-fields_fine c =
    let a = c.args in
    let e = c.start-q.ensures.value in
    let k = rw e at c.byte_at-k.ensures.value in
    let r = rw e at c.byte_at-r.ensures.value in
    let phi = rw e at c.u64_at-phi.ensures in
    let psi = rw e at c.u64_at-psi.ensures in
    let fields = rw e at c.fields_fine.ensures in
    elim c.then-not-fields_fine.branch [
      | then-not-fields_fine-via-then-not-fields_fine w ↦
          fields_wrong a.n a.m a.slots.now a.a (omega arith) _ _ k r _ c.counts_fine.ensures (ap not c.if-not-counts_fine.false) _ _ phi psi _ fields
          (ap not w.if-not-fields_fine.true)
      | then-not-fields_fine-via-else-not-fields_fine+then-not-all_below w ↦
          unused-wrong a.n a.m a.slots.now a.a (omega arith) _ _ k r _ c.counts_fine.ensures (ap not c.if-not-counts_fine.false) _ _ phi psi _ fields
          (ap not w.if-not-fields_fine.false) _ (rw e at w.all_below.ensures) (ap not w.if-not-all_below.true)
    ]

pub returns : goal.returns
returns c =
    let a = c.args in
    let e = c.start-q.ensures.value in
    unused_decides a.n a.m a.slots.now a.a (omega arith) _ _ (rw e at c.byte_at-k.ensures.value) (rw e at c.byte_at-r.ensures.value) _
    c.counts_fine.ensures (ap not c.if-not-counts_fine.false) _ _ (rw e at c.u64_at-phi.ensures) (rw e at c.u64_at-psi.ensures) _
    (rw e at c.fields_fine.ensures) (ap not c.if-not-fields_fine.false) _ (rw e at c.all_below.ensures) (ap not c.if-not-all_below.false) _
    (rw e at c.all_below-2.ensures)
