-- All its tests hold. Assumes nothing.
use Rattle.std.proofs.Common.{sym, ◌∙◌, arith}
use Rattle.slots.proofs.Words.{words_fine}
use Rattle.slots.proofs.fine_by_words.Goals as goal

pub returns : goal.returns
returns c = λ fine.
    let a = c.args in
    let e = c.start-q.ensures.value in
    words_fine a.n a.m a.slots.now a.a (omega arith) c.byte_at-k.result c.byte_at-r.result _ _ _ _ _
    (rw e at c.byte_at-k.ensures.value) (rw e at c.byte_at-r.ensures.value) (sym c.counts_fine.ensures ∙ c.if-not-counts_fine.false)
    (rw e at c.largest.ensures) (omega arith)
    (rw e at c.u64_at.ensures) (sym c.mask_fine.ensures ∙ c.if-not-mask_fine.false)
    (rw e at c.u64_at-else-not-mask_fine.ensures) (sym c.mask_fine-else-not-mask_fine.ensures ∙ c.if-not-mask_fine-2.false)
    (rw e at c.u64_at-else-not-mask_fine-2.ensures) (sym c.mask_fine-else-not-mask_fine-2.ensures ∙ c.if-not-mask_fine-3.false)
    (rw e at c.u64_at-2.ensures) (sym c.mask_fine-2.ensures ∙ fine)
