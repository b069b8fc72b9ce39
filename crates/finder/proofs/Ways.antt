-- The ways through `find`: each gives what is said of it. Assumes nothing.
use mathlib.Core.Path.{◌≡◌, sym, ap, ◌∙◌, subst}
use mathlib.Core.Bool.{true, false, false≢true}
use mathlib.Core.Logic.{inl, inr}
use mathlib.Core.List.{List}
use Prim.Native.Nat.{ℕ, ◌≤◌}
use native.Mathlib.Omega.{arith}
use Rattle.octets.specs.Le.{bytes_le}
use Rattle.reversal.specs.Device.{Device, tabled}
use Rattle.book.specs.Book.{Book, device_of, AllowedBook}
use Rattle.book.proofs.Device.{device_proper}
use Rattle.checker.specs.declared.TableChecking.{TableChecking}
use Rattle.checker.specs.TableChecks.{TableChecked}
use Rattle.checker.specs.Contract.{CheckTableAs}
use Rattle.checker.proofs.TableChecks.{table-checked, table-device}
use Rattle.finder.specs.declared.Found.{Found}
use Rattle.finder.specs.Finds.{Sought, MayHold, refusal, unaccepted}
use Rattle.finder.specs.Contract.{holds, EndsKept, all_back, shortest_row, FindAs}
use Rattle.finder.proofs.Exactly.{holds↔, kept-says, none_used}
use Rattle.finder.proofs.Unique.{Answers, answers_find}

module _ {book table : List ℕ} {x : TableChecking} {table' : List ℕ} (c : CheckTableAs book table x table') where
  module _ (z : x.code ≡ 0) where
    -- the book, with the table read from it
    of_book : (b : Book) × TableChecked book table b table' × (x ≡ record { code = 0; place = 0; n = b.n; m = b.m })
    of_book = table-checked c.bytes c.says z

    abbrev book_of_lem : Book
    book_of_lem = of_book.0

    allowed : AllowedBook book_of_lem
    allowed = of_book.1.accepted.allowed

    -- its limits
    pub within : (x.n ≤ 64) × (x.m ≤ 32)
    within =
        let d = allowed.device in
        (omega (arith, ap (λ (y : TableChecking). y.n) of_book.2, d.n_high), omega (arith, ap (λ (y : TableChecking). y.m) of_book.2, d.m_high))

    -- the device that the table holds
    abbrev device : Device
    device = tabled x.n x.m table'

    the_device : device ≡ device_of book_of_lem
    the_device = ap (λ (y : TableChecking). tabled y.n y.m table') of_book.2 ∙ table-device of_book.1

  module _ (q : Sought) where
    -- the book is refused
    pub as_refused : (x.code ≡ 0 → ⊥) → (r : Found) → r ≡ refusal x.code x.place → FindAs book q table r table'
    as_refused n r e = record { bytes = c.bytes; says = unaccepted c.says n e }

    module _ (z : x.code ≡ 0) where
      answers : (r : Found) → Answers (device_of (book_of_lem z)) q r → FindAs book q table r table'
      answers r a = record { bytes = c.bytes; says = answers_find (book_of_lem z) (of_book z).1 a }

      -- no item may hold what is sought
      pub as_barred : holds x.n x.m q ≡ false → (r : Found) → r ≡ refusal 14 0 → FindAs book q table r table'
      as_barred f r e =
          let no : MayHold (device z) q → ⊥ = λ h. false≢true (sym f ∙ (holds↔ (device z) q).1 h) in
          answers r (inl (subst (λ (d : Device). MayHold d q → ⊥) (the_device z) no, e))

      module _ (t : holds x.n x.m q ≡ true) {kept : List ℕ} {used : ℕ} (keeps : EndsKept (device z) q kept used) where
        held : MayHold (device_of (book_of_lem z)) q
        held = subst (λ (d : Device). MayHold d q) (the_device z) ((holds↔ (device z) q).0 t)

        kept_of : EndsKept (device_of (book_of_lem z)) q kept used
        kept_of = subst (λ (d : Device). EndsKept d q kept used) (the_device z) keeps

        -- no start has an end
        pub as_unused : used ≡ 0 → (r : Found) → r ≡ refusal 15 0 → FindAs book q table r table'
        as_unused u r e = answers r (inr (held, inl (e, none_used (device_of (book_of_lem z)) (device_proper (book_of_lem z) (allowed z)) q kept_of u)))

        -- the search
        pub as_sought : (used ≡ 0 → ⊥) → (r : Found) → r ≡ shortest_row (λ count row. all_back (device z) kept used (bytes_le count row)) x.m 0 4
            → FindAs book q table r table'
        as_sought n r e =
            let same : r ≡ shortest_row (λ count row. all_back (device_of (book_of_lem z)) kept used (bytes_le count row)) (book_of_lem z).m 0 4
            = e ∙ ap (λ (d : Device). shortest_row (λ count row. all_back d kept used (bytes_le count row)) d.m 0 4) (the_device z) in
            answers r
            (inr (
              held,
              kept-says (device_of (book_of_lem z)) (allowed z).device.m_high q held (device_proper (book_of_lem z) (allowed z)) (allowed z).device.n_high kept_of n r same,
            ))
