-- What checking with a table as the only buffer answers and leaves there, for the calls of 02 that take a book and a table "read as by checking" (requests
-- 8, 11 and 12), for the reader. Assumes nothing: these are definitions.
use Rattle.std.specs.Prelude.{◌≡◌, List, ℕ, ◌≤◌, ◌<◌, length}
use Rattle.book.specs.Book.{Book, AllowedBook, bytes_of}
use Rattle.book.specs.Lent.{TableRead}
use Rattle.book.specs.Refusal.{Refusal}
use Rattle.checker.specs.declared.Checking.{Checking}
use Rattle.checker.specs.declared.TableChecking.{TableChecking}
use Rattle.checker.specs.declared.Reason.{Reason}
use Rattle.checker.specs.Reasons.{code_of}
use Rattle.checker.specs.Checks.{AcceptedBook, place_of, WrongFor}

-- 01: "Returned (code, place)"; "The result carries n, m .., each 0 on a refusal."
abbrev pub refused : ℕ → ℕ → TableChecking
refused code place = record { code = code; place = place; n = 0; m = 0 }

-- an answer of checking, without its item count and its units
abbrev pub answer_of : Checking → TableChecking
answer_of c = record { code = c.code; place = c.place; n = c.n; m = c.m }

-- b is the accepted book in the bytes, and the table holds its outcomes
pub record TableChecked (book table : List ℕ) (b : Book) (table' : List ℕ) : Type 0 where
  pub long : 2048 ≤ length table
  pub accepted : AcceptedBook book b
  pub read : TableRead b table table'

-- of a book and the table at entry; the result and the table at exit
pub data TableChecks (book table : List ℕ) (result : TableChecking) (table' : List ℕ) : Type 0 where
  -- "1, 0: a lent buffer shorter than stated; all untouched"; "a table (2,048 entries of 64 bits ..)"
  short : length table < 2048 → result ≡ refused 1 0 → table' ≡ table → TableChecks book table result table'
  -- "then record by record 2, 3, 7, 4, 5, 6, the first faulty record deciding"; 02's 13; "untouched"
  faulty : 2048 ≤ length table → {code place : ℕ} → Refusal book code place → result ≡ refused code place → table' ≡ table
      → TableChecks book table result table'
  -- "8, record's offset: item not accepted; the place is that of the first wrong item; table .. read"; 02, of 12: "judged item by item beside 8; table
  -- .. read"
  wrong : 2048 ≤ length table → (b : Book) → AllowedBook b → bytes_of b ≡ book → {i : ℕ} {why : Reason} → WrongFor b i why
      → result ≡ refused (code_of why) (place_of b i) → TableRead b table table' → TableChecks book table result table'
  -- "0, 0: done"
  fine : (b : Book) → TableChecked book table b table' → result ≡ record { code = 0; place = 0; n = b.n; m = b.m }
      → TableChecks book table result table'
