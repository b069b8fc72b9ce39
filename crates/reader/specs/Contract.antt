-- What reading answers, computed, of the bytes alone; and what it leaves in the lent buffers. proofs/Exactly ties it to the definitions of 01.
-- Assumes nothing: these are definitions.
use Rattle.std.specs.Prelude.{◌≡◌, List, ℕ, ◌<◌, Ok as On, Err, IfOk}
use Rattle.base.specs.Lists.{Each}
use Rattle.base.specs.Sizes.{LongEnough}
use Rattle.book.specs.Book.{Book}
use Rattle.book.specs.Lent.{Lent, sizes}
use Rattle.book.specs.declared.State.{State}
use Rattle.book.specs.declared.fault.Fault.TheVariants.{ShortBuffer}
use Rattle.book.specs.Faults.{code_of}
use Rattle.book.specs.Parse.{Scan, Parsed, fault_at, cut, scan, at_start, parse}
use Rattle.book.specs.Parse.Parsed.{Ok, Refused}
use Rattle.book.specs.Buffers.{lent_of}
use Rattle.reader.specs.declared.Reading.{Reading}
use Rattle.reader.specs.Judged.{Limits}
use Rattle.reader.specs.Reads.{refusal, done}

abbrev pub on_parsed : {A : Type 0} → Parsed → (ℕ → ℕ → A) → (Book → A) → A
on_parsed (Ok b) refuse fine = fine b
on_parsed (Refused code place) refuse fine = refuse code place

-- `refuse` with the first code and its place, or `fine` with the book
abbrev pub book_by : {A : Type 0} → List ℕ → (ℕ → ℕ → A) → (Book → A) → A
book_by s refuse fine = on_parsed (parse s) refuse fine

-- the answer where reading is at its end, and what reading answers, as its judgement is
abbrev pub reading_at : State → Reading
reading_at st = record { code = 0; place = 0; n = st.n; m = st.m; items = st.items }

abbrev pub reading_by : Scan → Reading
reading_by (On st) = reading_at st
reading_by (Err f) = refusal (code_of f.fault) f.place

-- the contract of `reading_of`: what reading answers for the bytes s where every lent buffer is long enough
pub record ReadingOf (s : List ℕ) (r : Reading) : Type 0 where
  pub bytes : Each (λ x. x < 256) s
  pub result : r ≡ book_by s refusal done

-- buffers that are long enough, after reading
abbrev pub filled_by : List ℕ → Lent → Lent
filled_by s l = book_by s (λ code place. l) (λ b. lent_of b l)

-- the contract of `read_into`: book s and buffers l at entry; result r and buffers l' at exit
pub record ReadInto (s : List ℕ) (l : Lent) (r : Scan) (l' : Lent) : Type 0 where
  pub bytes : Each (λ x. x < 256) s
  pub short : (LongEnough (sizes l) → ⊥) → (r ≡ Err (fault_at ShortBuffer 0)) × (l' ≡ l)
  pub enough : LongEnough (sizes l) → (r ≡ scan (cut s) 0 at_start) × IfOk r Limits × (l' ≡ filled_by s l)

-- the contract of `read`: book s and buffers l at entry; result r and buffers l' at exit
pub record ReadAs (s : List ℕ) (l : Lent) (r : Reading) (l' : Lent) : Type 0 where
  pub bytes : Each (λ x. x < 256) s
  pub short : (LongEnough (sizes l) → ⊥) → (r ≡ refusal 1 0) × (l' ≡ l)
  pub enough : LongEnough (sizes l) → ReadingOf s r × (l' ≡ filled_by s l)
