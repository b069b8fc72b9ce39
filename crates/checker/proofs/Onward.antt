-- For callers that go on with a book that was checked. Assumes nothing.
use mathlib.Core.Path.{◌≡◌, sym, ap, ◌∙◌}
use mathlib.Core.List.{List}
use Prim.Native.Nat.{ℕ}
use native.Mathlib.Omega.{arith}
use Rattle.base.specs.Sizes.{LongEnough}
use Rattle.base.proofs.Sizes.{long_or_not}
use Rattle.book.specs.Book.{Book}
use Rattle.book.specs.Lent.{Lent, sizes}
use Rattle.book.specs.Parse.{parse}
use Rattle.book.specs.Parse.Parsed.{Ok}
use Rattle.book.proofs.Codes.{refusal_codes}
use Rattle.reader.specs.Reads.{done}
use Rattle.checker.specs.declared.Checking.{Checking}
use Rattle.checker.specs.Checks.{AcceptedBook, with_units}
use Rattle.checker.specs.Contract.{reason_in, units_of, check_by, CheckingOf, CheckAs}
use Rattle.checker.proofs.Exactly.{Way, by_fault, by_item, by_book, way, all-accepted, none-wrong, check_faulty, check_wrong, check_fine, result-faulty, result-wrong, result-fine}
use Rattle.checker.proofs.Unique.{over_seven}

-- a book was checked, and accepted
pub record BookAccepted (s : List ℕ) (r : Checking) : Type 0 where
  pub book : Book
  pub parsed : parse s ≡ Ok book
  pub accepted : AcceptedBook s book
  pub result : r ≡ with_units (done book) (units_of book)

module _ {s : List ℕ} {r : Checking} (c : CheckingOf s r) where
  code_of_lem : {x : Checking} → r ≡ x → r.code ≡ x.code
  code_of_lem e = ap (λ (y : Checking). y.code) e

  pub book-accepted : r.code ≡ 0 → BookAccepted s r
  book-accepted z = go (way s c.bytes)
    where
      go : Way s → BookAccepted s r
      go (by_fault code place e f) = absurd (omega (arith, code_of_lem (result-faulty c e), refusal_codes s code place f))
      go (by_item b e a same w) = absurd (omega (arith, code_of_lem (result-wrong c b e w), over_seven (reason_in b)))
      go (by_book b e a same w) =
          record { book = b; parsed = e; accepted = record { allowed = a; bytes = same; accepted = all-accepted b a w }; result = result-fine c b e w }

  -- what a caller does with it
  module _ {A : Type 0} (refuse : ℕ → ℕ → A) (fine : Book → A) where
    pub checked_by : (g : BookAccepted s r) → check_by s refuse fine ≡ fine g.book
    checked_by g = check_fine s refuse fine g.book g.parsed (none-wrong g.book g.accepted.allowed g.accepted.accepted)

    -- where there is none
    pub unchecked_by : (r.code ≡ 0 → ⊥) → check_by s refuse fine ≡ refuse r.code r.place
    unchecked_by n = go (way s c.bytes)
      where
        same-refusal : {x : Checking} → r ≡ x → refuse x.code x.place ≡ refuse r.code r.place
        same-refusal e = ap (λ (y : Checking). refuse y.code y.place) (sym e)

        go : Way s → check_by s refuse fine ≡ refuse r.code r.place
        go (by_fault code place e f) = check_faulty s refuse fine e ∙ same-refusal (result-faulty c e)
        go (by_item b e a same w) = check_wrong s refuse fine b e w ∙ same-refusal (result-wrong c b e w)
        go (by_book b e a same w) = absurd (n (code_of_lem (result-fine c b e w)))

-- with code 0 the lent buffers are long enough
pub check_long : {s : List ℕ} {l : Lent} {r : Checking} {l' : Lent} → CheckAs s l r l' → r.code ≡ 0 → LongEnough (sizes l)
check_long {l = l} c z = go (long_or_not (sizes l))
  where
    go : Dec (LongEnough (sizes l)) → LongEnough (sizes l)
    go (yes h) = h
    go (no n) = absurd (omega (arith, z, ap (λ (x : Checking). x.code) (c.short n).0))
