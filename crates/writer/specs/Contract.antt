-- The contract of `write`: the result and the output, by one chain of tests in their order. Writes says what it means; proofs/Exactly ties the two,
-- both ways. Assumes nothing: these are definitions.
use Rattle.std.specs.Prelude.{◌≡◌, not, List, ℕ, ◌*◌, length, Result, Ok, Err}
use Rattle.std.proofs.lemmas.List.Edits.{sets}
use Rattle.base.specs.Lists.{Bytes}
use Rattle.base.specs.Tests.{pick}
use Rattle.base.specs.Compare.{less}
use Rattle.base.specs.Shorter.{any_short}
use Rattle.book.specs.declared.fault.Fault.TheVariants.{ShortBuffer, OutOfRange, TooManyItems}
use Rattle.book.specs.declared.fault.FaultAt.{FaultAt}
use Rattle.book.specs.Faults.{code_of}
use Rattle.book.specs.Parse.{fault_at}
use Rattle.book.specs.Book.{bytes_of}
use Rattle.book.specs.Limits.{device_fine}
use Rattle.book.specs.Lent.{Lent}
use Rattle.book.specs.Buffers.{book_from}
use Rattle.writer.specs.Lowest.{lowest_weight, lowest_entry, lowest_slot, unless_below}
use Rattle.writer.specs.Writes.{buffers, refusal, written}
use Rattle.writer.specs.declared.Writing.{Writing}

-- the first fault whose test holds, with its place
unfoldable pub judgement : ℕ → ℕ → ℕ → Lent → List ℕ → Result (Unit {0}) FaultAt
judgement n m items l out =
    pick (any_short (buffers l out)) (Err (fault_at ShortBuffer 0))
    (pick (not (device_fine n m)) (Err (fault_at OutOfRange 0))
    (pick (less 64 items) (Err (fault_at TooManyItems 0))
    (unless_below (lowest_weight m l.weights) m
    (unless_below (lowest_entry n (n * m) l.table) (n * m)
    (unless_below (lowest_slot n m items l.slots) items (Ok tt))))))

-- `refuse` with the fault's code and place, else `fine`
abbrev pub on_judgement : {A : Type 0} → Result (Unit {0}) FaultAt → (ℕ → ℕ → A) → A → A
on_judgement (Ok done) refuse fine = fine
on_judgement (Err f) refuse fine = refuse (code_of f.fault) f.place

-- `refuse` at the first code and place whose test holds, else `fine`
abbrev pub checked : {A : Type 0} → ℕ → ℕ → ℕ → Lent → List ℕ → (ℕ → ℕ → A) → A → A
checked n m items l out refuse fine = on_judgement (judgement n m items l out) refuse fine

-- the bytes of the book that they hold
abbrev pub book_bytes : ℕ → ℕ → ℕ → Lent → List ℕ
book_bytes n m items l = bytes_of (book_from n m items l)

-- the result and the output of a call; that the slots are bytes is what their type says
pub record WriteAs (n m items : ℕ) (l : Lent) (out : List ℕ) (r : Writing) (out' : List ℕ) : Type 0 where
  pub bytes : Bytes l.slots
  pub result : r ≡ checked n m items l out refusal (written (length (book_bytes n m items l)))
  pub output : out' ≡ checked n m items l out (λ code place. out) (sets out 0 (book_bytes n m items l))
