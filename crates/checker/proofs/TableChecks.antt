-- Checking with a table as the only buffer: the ways through the code give what is said of it; it is what checking leaves in the table; one answer only.
-- Assumes nothing.
use mathlib.Core.Path.{◌≡◌, refl, sym, ap, ap₂, ◌∙◌, subst}
use mathlib.Core.Logic.{◌↔◌}
use mathlib.Core.List.{List}
use Prim.Native.Nat.{ℕ, ◌≤◌, ◌<◌}
use native.Mathlib.Omega.{arith}
use native.Mathlib.Decide.{dec_lt}
use lib.ListN.{length}
use Rattle.base.specs.Lists.{Bytes}
use Rattle.reversal.specs.Device.{tabled}
use Rattle.book.specs.Book.{Book, device_of, AllowedBook, bytes_of}
use Rattle.book.specs.Lent.{Lent, TableRead}
use Rattle.book.specs.Parse.{parse}
use Rattle.book.specs.Parse.Parsed.{Ok}
use Rattle.book.specs.Buffers.{table_of}
use Rattle.book.proofs.Codes.{refusal_codes}
use Rattle.book.proofs.Device.{tabled-device}
use Rattle.book.proofs.Table.{table_read}
use Rattle.book.proofs.Unique.{same-table, one-book, one-refusal, not-refused}
use Rattle.reader.specs.declared.Reading.{Reading}
use Rattle.reader.specs.Reads as reads
use Rattle.reader.specs.Contract.{book_by}
use Rattle.reader.proofs.Ways.{when_faulty, when_fine}
use Rattle.checker.specs.declared.Checking.{Checking}
use Rattle.checker.specs.declared.TableChecking.{TableChecking}
use Rattle.checker.specs.declared.Reason.{Reason}
use Rattle.checker.specs.Reasons.{code_of}
use Rattle.checker.specs.Checks.{AcceptedBook, place_of, WrongFor, with_units, Checks}
use Rattle.checker.specs.Checks as checks
use Rattle.checker.specs.TableChecks.{refused, answer_of, TableChecked, TableChecks, short, faulty, wrong, fine}
use Rattle.checker.specs.Contract.{CheckingOf, CheckTableAs}
use Rattle.checker.proofs.Exactly.{Way, by_fault, by_item, by_book, way, first-wrong, all-accepted, result-faulty, result-wrong, result-fine}
use Rattle.checker.proofs.Unique.{same-wrong, none-wrong, over_seven, accepted-book}

-- ---- from the answer for the bytes, with the table as reading leaves it
pub table-says : {s table : List ℕ} {x : Checking} {table' : List ℕ} → CheckingOf s x → 2048 ≤ length table
    → table' ≡ book_by s (λ code place. table) (λ b. table_of b table) → CheckTableAs s table (answer_of x) table'
table-says {s} {table} {x} {table'} c long k = record { bytes = c.bytes; says = go (way s c.bytes) }
  where
    read : (b : Book) → parse s ≡ Ok b → AllowedBook b → TableRead b table table'
    read b e a = subst (TableRead b table) (sym (k ∙ when_fine s _ _ e)) (table_read b table a long)

    go : Way s → TableChecks s table (answer_of x) table'
    go (by_fault code place e f) = faulty long f (ap answer_of (result-faulty c e)) (k ∙ when_faulty s _ _ e)
    go (by_item b e a same w) = wrong long b a same (first-wrong b a w) (ap answer_of (result-wrong c b e w)) (read b e a)
    go (by_book b e a same w) =
        fine b (record { long = long; accepted = record { allowed = a; bytes = same; accepted = all-accepted b a w }; read = read b e a })
        (ap answer_of (result-fine c b e w))

-- ---- what checking leaves in the table, where slots and weights are long enough
pub checks_table : {book : List ℕ} {l : Lent} {c : Checking} {l' : Lent} → Checks book l c l' → 2176 ≤ length l.slots → 32 ≤ length l.weights
    → TableChecks book l.table (answer_of c) l'.table
checks_table {l = l} (checks.unread (reads.short n d k) m e) slots weights =
    short (under (dec_lt (length l.table) 2048)) (ap answer_of (e ∙ ap (λ (y : Reading). with_units y 0) d)) (ap (λ (y : Lent). y.table) k)
  where
    under : Dec (length l.table < 2048) → length l.table < 2048
    under (yes h) = h
    under (no h) = absurd (n (omega arith, (slots, (weights, tt))))
checks_table (checks.unread (reads.faulty long f d k) m e) slots weights =
    faulty long.0 f (ap answer_of (e ∙ ap (λ (y : Reading). with_units y 0) d)) (ap (λ (y : Lent). y.table) k)
checks_table (checks.unread (reads.fine b f d) m e) slots weights = absurd (m (ap (λ (y : Reading). y.code) d))
checks_table (checks.wrong b f w u e) slots weights = wrong f.long.0 b f.allowed f.bytes w (ap answer_of e) f.read.table_read
checks_table (checks.fine b k e) slots weights =
    fine b (record { long = k.filled.long.0; accepted = accepted-book k; read = k.filled.read.table_read }) (ap answer_of e)

-- ---- one answer only
module _ {book table : List ℕ} (h : Bytes book) where
  -- the book is one, and so is the table that it is read into
  same_read : {b b' : Book} {x y : List ℕ} → AllowedBook b → bytes_of b ≡ book → AllowedBook b' → bytes_of b' ≡ book → TableRead b table x → TableRead b' table y
      → (b ≡ b') × (x ≡ y)
  same_read {b} {b'} {x} {y} a same a' same' p q =
      let e : b ≡ b' = one-book b b' a a' (same ∙ sym same') in
      (e, same-table b' table x y (subst (λ (z : Book). TableRead z table x) e p) q)

  pub table_checks_unique : {r q : TableChecking} {x y : List ℕ} → TableChecks book table r x → TableChecks book table q y → (r ≡ q) × (x ≡ y)
  table_checks_unique (short l e k) (short l' e' k') = (e ∙ sym e', k ∙ sym k')
  table_checks_unique (short l e k) (faulty l' f e' k') = absurd (omega arith)
  table_checks_unique (short l e k) (wrong l' b a s w e' k') = absurd (omega arith)
  table_checks_unique (short l e k) (fine b g e') = absurd (omega (arith, g.long))
  table_checks_unique (faulty l f e k) (short l' e' k') = absurd (omega arith)
  table_checks_unique (faulty l f e k) (faulty l' f' e' k') = let (c, p) = one-refusal book h f f' in (e ∙ (ap₂ refused c p ∙ sym e'), k ∙ sym k')
  table_checks_unique (faulty l f e k) (wrong l' b a s w e' k') = absurd (not-refused book h f b a s)
  table_checks_unique (faulty l f e k) (fine b g e') = absurd (not-refused book h f b g.accepted.allowed g.accepted.bytes)
  table_checks_unique (wrong l b a s w e k) (short l' e' k') = absurd (omega arith)
  table_checks_unique (wrong l b a s w e k) (faulty l' f e' k') = absurd (not-refused book h f b a s)
  table_checks_unique (wrong l b a s {i} {why} w e k) (wrong l' b' a' s' {i = j} {why = other} v e' k') =
      let (z, p) = same_read a s a' s' k k' in
      let (y, d) = same-wrong b' (subst (λ (c : Book). WrongFor c i why) z w) v in (
        e ∙ (ap (λ (c : Book). refused (code_of why) (place_of c i)) z ∙ (ap₂ (λ (c : Reason) (n : ℕ). refused (code_of c) (place_of b' n)) d y ∙ sym e')),
        p,
      )
  table_checks_unique (wrong l b a s {i} {why} w e k) (fine b' g e') =
      let (z, p) = same_read a s g.accepted.allowed g.accepted.bytes k g.read in
      absurd (none-wrong b' (subst (λ (c : Book). WrongFor c i why) z w).first g.accepted.accepted)
  table_checks_unique (fine b g e) (short l e' k') = absurd (omega (arith, g.long))
  table_checks_unique (fine b g e) (faulty l f e' k') = absurd (not-refused book h f b g.accepted.allowed g.accepted.bytes)
  table_checks_unique (fine b g e) (wrong l b' a' s' {i} {why} w e' k') =
      let (z, p) = same_read a' s' g.accepted.allowed g.accepted.bytes k' g.read in
      absurd (none-wrong b (subst (λ (c : Book). WrongFor c i why) z w).first g.accepted.accepted)
  table_checks_unique (fine b g e) (fine b' g' e') =
      let (z, p) = same_read g.accepted.allowed g.accepted.bytes g'.accepted.allowed g'.accepted.bytes g.read g'.read in
      (e ∙ (ap (λ (c : Book). record { code = 0; place = 0; n = c.n; m = c.m }) z ∙ sym e'), p)

  -- ---- for callers that go on with an accepted book
  module _ {r : TableChecking} {table' : List ℕ} (x : TableChecks book table r table') where
    -- with code 0
    pub table-checked : r.code ≡ 0 → (b : Book) × TableChecked book table b table' × (r ≡ record { code = 0; place = 0; n = b.n; m = b.m })
    table-checked z = go x
      where
        code_of_lem : {q : TableChecking} → r ≡ q → r.code ≡ q.code
        code_of_lem e = ap (λ (y : TableChecking). y.code) e

        go : TableChecks book table r table' → (b : Book) × TableChecked book table b table' × (r ≡ record { code = 0; place = 0; n = b.n; m = b.m })
        go (short l e k) = absurd (omega (arith, code_of_lem e))
        go (faulty l f e k) = absurd (omega (arith, code_of_lem e, refusal_codes book _ _ f))
        go (wrong l b a s {why = why} w e k) = absurd (omega (arith, code_of_lem e, over_seven why))
        go (fine b g e) = (b, g, e)

    -- exactly on an accepted book
    pub table_zero↔ : (r.code ≡ 0) ↔ ((2048 ≤ length table) × ((b : Book) × AcceptedBook book b))
    table_zero↔ = ((λ z. let (b, g, e) = table-checked z in (g.long, (b, g.accepted))), λ (long, (b, a)). back long b a)
      where
        back : 2048 ≤ length table → (b : Book) → AcceptedBook book b → r.code ≡ 0
        back long b a =
            let here : TableChecked book table b _ = record { long = long; accepted = a; read = table_read b table a.allowed long } in
            ap (λ (y : TableChecking). y.code) (table_checks_unique x (fine b here refl)).0

-- the device is in the table
pub table-device : {book table : List ℕ} {b : Book} {table' : List ℕ} → TableChecked book table b table' → tabled b.n b.m table' ≡ device_of b
table-device {table = table} {b} {table'} g =
    ap (tabled b.n b.m) (same-table b table table' _ g.read (table_read b table g.accepted.allowed g.long))
    ∙ tabled-device b table g.accepted.allowed g.long
