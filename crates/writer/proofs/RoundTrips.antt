-- What follows from what 01 says of writing: what is written is a well-formed book, and 0 is answered exactly where one stands in the buffers.
-- Assumes nothing.
use mathlib.Core.Path.{◌≡◌, sym, ap, ◌∙◌}
use mathlib.Core.Logic.{◌↔◌}
use mathlib.Core.List.{List}
use Prim.Native.Nat.{ℕ, ◌<◌, ◌≤◌}
use native.Mathlib.Omega.{arith}
use lib.ListN.{take}
use Rattle.base.specs.Lists.{Bytes}
use Rattle.base.specs.Sizes.{LongEnough}
use Rattle.book.specs.Book.{Book, AllowedBook, bytes_of, WellFormed}
use Rattle.book.specs.Lent.{Lent, Holds}
use Rattle.book.proofs.Largest.{length-book}
use Rattle.writer.specs.declared.Writing.{Writing}
use Rattle.writer.specs.Writes.{buffers, Refuses, BookWritten, Writes}
use Rattle.writer.specs.Writes.Refuses.{short, device, count, weight, entry, slot}
use Rattle.writer.specs.Writes.Writes.{refused, done}
use Rattle.writer.proofs.Exactly.{held-written}

-- the first bytes of the output are the book's
pub bytes_of_book : {book out : List ℕ} {r : Writing} {out' : List ℕ} → BookWritten book out r out' → take r.length out' ≡ book
bytes_of_book {out' = out'} w = ap (λ (x : Writing). take x.length out') w.answer ∙ w.bytes.front

module _ {n m items : ℕ} {l : Lent} {out : List ℕ} where
  -- every refusal has a code
  pub some-code : {code place : ℕ} → Refuses n m items l out code place → 0 < code
  some-code (short h) = omega arith
  some-code (device g h) = omega arith
  some-code (count g d h) = omega arith
  some-code (weight g d f w) = omega arith
  some-code (entry g d f h w) = omega arith
  some-code (slot g d f h e w) = omega arith

  module _ {r : Writing} {out' : List ℕ} where
    -- 0 is answered where the book was written
    pub done_of : r.code ≡ 0 → Writes n m items l out r out'
        → LongEnough (buffers l out) × ((b : Book) × AllowedBook b × Holds n m items l b × BookWritten (bytes_of b) out r out')
    done_of z (refused q e f) = absurd (omega (arith, some-code q, ap (λ (x : Writing). x.code) e))
    done_of z (done long b a h w) = (long, (b, a, h, w))

    pub write_length : Writes n m items l out r out' → r.length ≤ 31178
    write_length (refused q e f) = omega (arith, ap (λ (x : Writing). x.length) e)
    write_length (done long b a h w) = omega (arith, ap (λ (x : Writing). x.length) w.answer, length-book b a)

    pub write_well_formed : Writes n m items l out r out' → r.code ≡ 0 → WellFormed (take r.length out')
    write_well_formed x z = let (long, (b, a, h, w)) = done_of z x in (b, a, sym (bytes_of_book w))

    pub writes_zero↔ : Bytes l.slots → Writes n m items l out r out'
        → (r.code ≡ 0) ↔ (LongEnough (buffers l out) × ((b : Book) × AllowedBook b × Holds n m items l b))
    writes_zero↔ s x = (
      (λ z. let (long, (b, a, h, w)) = done_of z x in (long, (b, a, h))),
      λ (long, (b, a, h)). ap (λ (y : Writing). y.code) (held-written s x long a h).answer,
    )
