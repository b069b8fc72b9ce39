-- What reading answers and leaves in the lent buffers (01, "The book's bytes" and its table of codes; 02's 13), for the reader.
-- Assumes nothing: these are definitions.
use Rattle.std.specs.Prelude.{◌≡◌, List, ℕ, length}
use Rattle.base.specs.Sizes.{LongEnough}
use Rattle.book.specs.Book.{Book, AllowedBook, bytes_of, items_for}
use Rattle.book.specs.Lent.{Lent, sizes, LentRead}
use Rattle.book.specs.Refusal.{Refusal}
use Rattle.reader.specs.declared.Reading.{Reading}

-- "Returned (code, place)"; "The result carries n, m and the item count, each 0 on a refusal."
abbrev pub refusal : ℕ → ℕ → Reading
refusal code place = record { code = code; place = place; n = 0; m = 0; items = 0 }

abbrev pub done : Book → Reading
done b = record { code = 0; place = 0; n = b.n; m = b.m; items = length (items_for b) }

-- b is the book in the bytes, and the buffers hold it
pub record Filled (book : List ℕ) (l : Lent) (b : Book) (l' : Lent) : Type 0 where
  pub long : LongEnough (sizes l)
  pub allowed : AllowedBook b
  pub bytes : bytes_of b ≡ book
  pub read : LentRead b l l'

-- of a book and the lent buffers at entry; the result and the buffers at exit
pub data Reads (book : List ℕ) (l : Lent) (result : Reading) (l' : Lent) : Type 0 where
  -- "1, 0: a lent buffer shorter than stated; all untouched"
  short : (LongEnough (sizes l) → ⊥) → result ≡ refusal 1 0 → l' ≡ l → Reads book l result l'
  -- "then record by record 2, 3, 7, 4, 5, 6, the first faulty record deciding"; 02's 13; "untouched"
  faulty : LongEnough (sizes l) → {code place : ℕ} → Refusal book code place → result ≡ refusal code place → l' ≡ l → Reads book l result l'
  -- "0, 0: done"
  fine : (b : Book) → Filled book l b l' → result ≡ done b → Reads book l result l'
