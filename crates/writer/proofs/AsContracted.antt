-- Writing as the contract has it writes as 01 says. Assumes nothing.
use mathlib.Core.Path.{sym, ◌∙◌}
use mathlib.Core.Logic.{inl, inr}
use mathlib.Core.List.{List}
use Prim.Native.Nat.{ℕ}
use Rattle.book.specs.Lent.{Lent}
use Rattle.book.specs.Buffers.{book_from}
use Rattle.book.proofs.RoundTrip.{written-allowed, written-holds}
use Rattle.writer.specs.declared.Writing.{Writing}
use Rattle.writer.specs.Contract.{WriteAs}
use Rattle.writer.specs.Writes.{Writes}
use Rattle.writer.specs.Writes.Writes.{refused, done}
use Rattle.writer.proofs.Exactly.{Judged, judged, refused-is, fine-is, book-room, read-long, book-stored}

module _ {n m items : ℕ} {l : Lent} {out : List ℕ} where
  pub writes : {r : Writing} {out' : List ℕ} → WriteAs n m items l out r out' → Writes n m items l out r out'
  writes {r} {out'} a = go (judged n m items l out a.bytes)
    where
      go : Judged n m items l out a.bytes → Writes n m items l out r out'
      go (inl (code, place, q)) =
          refused q (a.result ∙ sym (refused-is n m items l out a.bytes _ _ q))
          (a.output ∙ sym (refused-is n m items l out a.bytes _ _ q))
      go (inr (long, w)) =
          done long (book_from n m items l) (written-allowed n m items l w)
          (written-holds n m items l w (read-long l out long) a.bytes)
          (rw (
            a.result ∙ sym (fine-is n m items l out a.bytes _ _ long w),
            a.output ∙ sym (fine-is n m items l out a.bytes _ _ long w),
          )
          (book-stored _ out (book-room n m items l out a.bytes long w)))
