-- The ways through reading, for the result and the buffers alike, and for the contract. Assumes nothing.
use mathlib.Core.Path.{◌≡◌, refl, sym, ap, ◌∙◌}
use mathlib.Core.List.{List}
use Rattle.std.specs.Prelude.{Ok as On, Err, IsErrAnd}
use Prim.Native.Nat.{ℕ}
use Rattle.base.specs.Lists.{Bytes}
use Rattle.base.specs.Sizes.{LongEnough}
use Rattle.book.specs.declared.State.{State}
use Rattle.book.specs.declared.fault.FaultAt.{FaultAt}
use Rattle.book.specs.Book.{Book, AllowedBook, bytes_of}
use Rattle.book.specs.Lent.{Lent, sizes}
use Rattle.book.specs.Buffers.{lent_of}
use Rattle.book.specs.Parse.{Scan, cut, scan, at_start, parse}
use Rattle.book.specs.Parse.Parsed.{Ok, Refused}
use Rattle.reader.specs.declared.Reading.{Reading}
use Rattle.reader.specs.Reads.{refusal, done}
use Rattle.reader.specs.Contract.{book_by, reading_by, ReadingOf, ReadInto, ReadAs}
use Rattle.reader.specs.Judged.{Limits}
use Rattle.reader.proofs.Filling.{found, refused}

-- what each way gives, for the result and the buffers alike
module _ {A : Type 0} (s : List ℕ) (refuse : ℕ → ℕ → A) (found : Book → A) where
  pub when_faulty : {code place : ℕ} → parse s ≡ Refused code place → book_by s refuse found ≡ refuse code place
  when_faulty e = rw e refl

  pub when_fine : {b : Book} → parse s ≡ Ok b → book_by s refuse found ≡ found b
  when_fine e = rw e refl

-- ---- what is answered for bytes that are judged
pub judged_reading : (s : List ℕ) (v : Scan) → Bytes s → v ≡ scan (cut s) 0 at_start → reading_by v ≡ book_by s refusal done
judged_reading s (On st) bytes e = let f = found s st bytes (sym e) in f.result ∙ sym (when_fine s refusal done f.parsed)
judged_reading s (Err f) bytes e = sym (when_faulty s refusal done (refused s f (sym e)))

pub reading_judged : {s : List ℕ} {r : Reading} (v : Scan) → Bytes s → v ≡ scan (cut s) 0 at_start → r ≡ reading_by v → ReadingOf s r
reading_judged {s} v bytes e q = record { bytes = bytes; result = q ∙ judged_reading s v bytes e }

-- ---- the contracts with buffers
-- a book with a fault: all untouched
pub into_fault : {s : List ℕ} {l : Lent} {f : FaultAt} (r : Scan) → Bytes s → LongEnough (sizes l) → IsErrAnd r (λ e. e ≡ f) → Err f ≡ scan (cut s) 0 at_start
    → ReadInto s l r l
into_fault (On st) bytes h a e = absurd a
into_fault {s} {l} (Err x) bytes h a e =
    let q : ◌≡◌ {A = Scan} (Err x) (scan (cut s) 0 at_start) = ap Err a ∙ e in
    record { bytes = bytes; short = λ n. absurd (n h); enough = λ _. (q, tt, sym (when_faulty s _ _ (refused s x (sym q)))) }

-- one without: the buffers hold it
pub into_book : {s : List ℕ} {l : Lent} {l' : Lent} (st : State) → Bytes s → LongEnough (sizes l) → On st ≡ scan (cut s) 0 at_start → Limits st
    → ((b : Book) → AllowedBook b → bytes_of b ≡ s → l' ≡ lent_of b l) → ReadInto s l (On st) l'
into_book {s} st bytes h e k g =
    let f = found s st bytes (sym e) in
    record { bytes = bytes; short = λ n. absurd (n h); enough = λ _. (e, k, g f.book f.allowed f.bytes ∙ sym (when_fine s _ _ f.parsed)) }

pub read_as : {s : List ℕ} {l : Lent} {r : Reading} {l' : Lent} (v : Scan) → ReadInto s l v l' → r ≡ reading_by v → ReadAs s l r l'
read_as v c q =
    record {
      bytes = c.bytes;
      short = λ n. let (e, k) = c.short n in (q ∙ ap reading_by e, k);
      enough = λ h. let (e, _, k) = c.enough h in (reading_judged v c.bytes e q, k);
    }
