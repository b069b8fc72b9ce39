-- The contract of reading gives what 01 says, of books and records. Assumes nothing.
use mathlib.Core.Path.{◌≡◌, refl, sym, ap, ◌∙◌, subst}
use mathlib.Core.List.{List}
use Prim.Native.Nat.{ℕ, ◌<◌}
use native.Mathlib.Decide.{dec_lt}
use native.Mathlib.Omega.{arith}
use Rattle.base.specs.Sizes.{LongEnough}
use Rattle.base.proofs.Sizes.{long_or_not}
use Rattle.book.specs.Book.{Book, AllowedBook, bytes_of}
use Rattle.book.specs.Lent.{Lent, sizes, LentRead}
use Rattle.book.specs.Refusal.{Refusal}
use Rattle.book.specs.Parse.{Parsed, parse}
use Rattle.book.specs.Parse.Parsed.{Ok, Refused}
use Rattle.book.proofs.Reading.{parse-fine}
use Rattle.book.proofs.Refused.{refused_exactly}
use Rattle.book.proofs.Codes.{refusal_codes}
use Rattle.book.proofs.Lent.{lent-read}
use Rattle.reader.specs.declared.Reading.{Reading}
use Rattle.reader.specs.Reads.{refusal, done, Filled, Reads, short, faulty, fine}
use Rattle.reader.specs.Contract.{ReadingOf, filled_by, ReadAs}
use Rattle.reader.proofs.Ways.{when_faulty, when_fine}

-- ---- for callers that go on with what was read

-- the bytes are those of a book
pub record BookFound (s : List ℕ) (r : Reading) : Type 0 where
  pub book : Book
  pub parsed : parse s ≡ Ok book
  pub allowed : AllowedBook book
  pub bytes : bytes_of book ≡ s
  pub result : r ≡ done book

-- they are refused
pub record FaultFound (s : List ℕ) (r : Reading) : Type 0 where
  pub code : ℕ
  pub place : ℕ
  pub parsed : parse s ≡ Refused code place
  pub due : Refusal s code place
  pub result : r ≡ refusal code place

module _ {s : List ℕ} {r : Reading} (c : ReadingOf s r) where
  pub book-found : r.code ≡ 0 → BookFound s r
  book-found e = go (parse s) refl
    where
      go : (p : Parsed) → parse s ≡ p → BookFound s r
      go (Ok b) f =
          let (a, same) = parse-fine s b c.bytes f in
          record { book = b; parsed = f; allowed = a; bytes = same; result = c.result ∙ when_fine s refusal done f }
      go (Refused code place) f =
          let k = c.result ∙ when_faulty s refusal done f in
          absurd (omega (arith, ap (λ (x : Reading). x.code) k, refusal_codes s code place ((refused_exactly s code place c.bytes).0 f)))

  pub fault_found : (r.code ≡ 0 → ⊥) → FaultFound s r
  fault_found n = go (parse s) refl
    where
      go : (p : Parsed) → parse s ≡ p → FaultFound s r
      go (Ok b) f = absurd (n (ap (λ (x : Reading). x.code) (c.result ∙ when_fine s refusal done f)))
      go (Refused code place) f =
          record { code = code; place = place; parsed = f; due = (refused_exactly s code place c.bytes).0 f; result = c.result ∙ when_faulty s refusal done f }

-- ---- what 01 says

-- the buffers of a book that is read
pub filled : {s : List ℕ} {l : Lent} {l' : Lent} → l' ≡ filled_by s l → LongEnough (sizes l) → {b : Book} → AllowedBook b → bytes_of b ≡ s → parse s ≡ Ok b
    → Filled s l b l'
filled {s} {l} k h {b} a same e =
    record { long = h; allowed = a; bytes = same; read = subst (LentRead b l) (sym (k ∙ when_fine s _ _ e)) (lent-read b l a h) }

pub reads : {s : List ℕ} {l : Lent} {r : Reading} {l' : Lent} → ReadAs s l r l' → Reads s l r l'
reads {s} {l} {r} {l'} c = go (long_or_not (sizes l))
  where
    on_code : LongEnough (sizes l) → Dec (0 < r.code) → Reads s l r l'
    on_code h (yes p) =
        let (d, k) = c.enough h in
        let f = fault_found d (λ z. omega arith) in
        faulty h f.due f.result (k ∙ when_faulty s _ _ f.parsed)
    on_code h (no p) =
        let (d, k) = c.enough h in
        let f = book-found d (omega arith) in
        fine f.book (filled k h f.allowed f.bytes f.parsed) f.result

    go : Dec (LongEnough (sizes l)) → Reads s l r l'
    go (no n) = let (e, k) = c.short n in short n e k
    go (yes h) = on_code h (dec_lt 0 r.code)
