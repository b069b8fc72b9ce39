-- What is written once no fault was found. Assumes nothing.
use Rattle.std.proofs.Common.{ap, sym, ◌∙◌, length}
use Rattle.std.proofs.lemmas.List.Edits.{sets}
use Rattle.octets.proofs.Put.{each_byte}
use Rattle.book.specs.Lent.{lent}
use Rattle.writer.specs.Writes.{refusal, written}
use Rattle.writer.specs.Contract.{book_bytes}
use Rattle.writer.proofs.Chain.{counts_fine_lem, by_judgement}
use Rattle.writer.proofs.Exactly.{none-refused}
use Rattle.writer.proofs.write.Goals as goal

pub put_book-length-requires : goal.put_book-length-requires
put_book-length-requires c =
    let a = c.args in
    let l = lent a.table.now a.slots.now a.weights.now in
    let (long, w) = none-refused a.n a.m a.items l a.out.now (each_byte l.slots c.type_inv.slots) (sym c.in_default.is ∙ c.judge.ensures) in
    (w.device.n_high, w.device.m_high, w.few, counts_fine_lem a.n a.m a.items l.slots w.each_slot, long.0, long.1.0, long.1.1.1.0, long.1.1.0)

pub returns : goal.returns
returns c =
    let a = c.args in
    let l = lent a.table.now a.slots.now a.weights.now in
    let e = sym c.in_default.is ∙ c.judge.ensures in
    let p = c.put_book-length.ensures in
    record {
      bytes = each_byte l.slots c.type_inv.slots;
      result = ap written p.value ∙ by_judgement a.n a.m a.items l a.out.now refusal (written (length (book_bytes a.n a.m a.items l))) e;
      output = p.out_after ∙ by_judgement a.n a.m a.items l a.out.now (λ code place. a.out.now) (sets a.out.now 0 (book_bytes a.n a.m a.items l)) e;
    }
