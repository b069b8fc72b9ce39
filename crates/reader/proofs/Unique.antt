-- What 01 says of reading leaves one answer only: the result and the buffers. So it answers 0 exactly on well-formed books. Assumes nothing.
use mathlib.Core.Path.{◌≡◌, sym, ap, ap₂, ◌∙◌, subst}
use mathlib.Core.Logic.{◌↔◌}
use mathlib.Core.List.{List}
use Prim.Native.Nat.{ℕ}
use native.Mathlib.Omega.{arith}
use Rattle.base.specs.Lists.{Bytes}
use Rattle.base.specs.Sizes.{LongEnough}
use Rattle.book.specs.Book.{Book, WellFormed}
use Rattle.book.specs.Lent.{Lent, sizes}
use Rattle.book.proofs.Codes.{refusal_codes}
use Rattle.book.proofs.Lent.{same-lent}
use Rattle.book.proofs.Unique.{one-book, one-refusal, not-refused}
use Rattle.reader.specs.declared.Reading.{Reading}
use Rattle.reader.specs.Reads.{refusal, done, Filled, Reads, short, faulty, fine}

-- one book is read, and one content of the buffers is left
pub same-filled : {book : List ℕ} {l : Lent} {b b' : Book} {x y : Lent} → Filled book l b x → Filled book l b' y → (b ≡ b') × (x ≡ y)
same-filled {book} {l} {b} {b'} {x} {y} f g =
    let e : b' ≡ b = one-book b' b g.allowed f.allowed (g.bytes ∙ sym f.bytes) in
    let k : Filled book l b y = subst (λ (z : Book). Filled book l z y) e g in (sym e, same-lent b l f.allowed x y f.read k.read)

module _ {book : List ℕ} {l : Lent} {r : Reading} {x : Lent} (h : Bytes book) where
  pub reads_unique : {q : Reading} {y : Lent} → Reads book l r x → Reads book l q y → (r ≡ q) × (x ≡ y)
  reads_unique (short a e k) (short a' e' k') = (e ∙ sym e', k ∙ sym k')
  reads_unique (short a e k) (faulty w f e' k') = absurd (a w)
  reads_unique (short a e k) (fine b f e') = absurd (a f.long)
  reads_unique (faulty w f e k) (short a e' k') = absurd (a w)
  reads_unique (faulty w f e k) (faulty w' f' e' k') = let (c, p) = one-refusal book h f f' in (e ∙ (ap₂ refusal c p ∙ sym e'), k ∙ sym k')
  reads_unique (faulty w f e k) (fine b g e') = absurd (not-refused book h f b g.allowed g.bytes)
  reads_unique (fine b f e) (short a e' k') = absurd (a f.long)
  reads_unique (fine b f e) (faulty w g e' k') = absurd (not-refused book h g b f.allowed f.bytes)
  reads_unique (fine b f e) (fine b' g e') = let (w, p) = same-filled f g in (e ∙ (ap done w ∙ sym e'), p)

  -- code 0 exactly where the buffers are long enough and the bytes are those of some allowed book
  pub zero↔ : Reads book l r x → (r.code ≡ 0) ↔ (LongEnough (sizes l) × WellFormed book)
  zero↔ c = (forth c, back c)
    where
      code_of_lem : {q : Reading} → r ≡ q → r.code ≡ q.code
      code_of_lem e = ap (λ (y : Reading). y.code) e

      forth : Reads book l r x → r.code ≡ 0 → LongEnough (sizes l) × WellFormed book
      forth (short a e k) z = absurd (omega (arith, code_of_lem e))
      forth (faulty w f e k) z = absurd (omega (arith, code_of_lem e, refusal_codes book _ _ f))
      forth (fine b f e) z = (f.long, (b, f.allowed, f.bytes))

      back : Reads book l r x → LongEnough (sizes l) × WellFormed book → r.code ≡ 0
      back (short a e k) (w, y) = absurd (a w)
      back (faulty w f e k) (w', (b, a, same)) = absurd (not-refused book h f b a same)
      back (fine b f e) w = code_of_lem e
