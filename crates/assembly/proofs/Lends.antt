-- What the two forms lend to `planned`: the book's device and weights, in the table and weights that checking filled, or in the book's moves and a
-- scratch. Assumes nothing.
use mathlib.Core.Path.{◌≡◌, sym, ap, ◌∙◌, subst}
use mathlib.Core.List.{List}
use Prim.Native.Nat.{ℕ, ◌≤◌}
use native.Mathlib.Omega.{arith}
use lib.ListN.{length, replicate, length-replicate}
use Rattle.reversal.specs.Device.{tabled}
use Rattle.book.specs.Book.{Book}
use Rattle.book.specs.Lent.{Lent}
use Rattle.book.specs.Parse.{parse}
use Rattle.book.specs.Buffers.{lent_of}
use Rattle.book.proofs.Reading.{parse-bytes}
use Rattle.book.proofs.Unique.{one-book}
use Rattle.book.proofs.Weights.{weight-holds}
use Rattle.book.proofs.Device.{tabled-device}
use Rattle.moves.specs.Moves.{moved}
use Rattle.reader.specs.Filling.{WeightsFilled}
use Rattle.reader.proofs.Ways.{when_fine}
use Rattle.checker.specs.declared.Checking.{Checking}
use Rattle.checker.specs.Checks.{AcceptedBook}
use Rattle.checker.specs.Contract.{CheckingOf, CheckAs, CheckSmallAs}
use Rattle.checker.proofs.Onward.{book-accepted, check_long}
use Rattle.points.specs.Items.{WeightsOf}
use Rattle.assembly.specs.Contract.{Lending}

module _ {book : List ℕ} {f : Checking} (c : CheckingOf book f) (z : f.code ≡ 0) (b : Book) (a : AcceptedBook book b) where
  -- the book that was checked is whichever is accepted
  same : (book-accepted c z).book ≡ b
  same = let g = book-accepted c z in one-book g.book b g.accepted.allowed a.allowed (g.accepted.bytes ∙ sym a.bytes)

  n_of_lem : f.n ≡ b.n
  n_of_lem = ap (λ (x : Checking). x.n) (book-accepted c z).result ∙ ap (λ (x : Book). x.n) same

  m_of : f.m ≡ b.m
  m_of = ap (λ (x : Checking). x.m) (book-accepted c z).result ∙ ap (λ (x : Book). x.m) same

-- ---- the table and the weights that checking filled
pub table_lends : {book : List ℕ} {f : Checking} {l read : Lent} → CheckAs book l f read → f.code ≡ 0
    → Lending book (tabled f.n f.m read.table) read.weights f
table_lends {book} {f} {l} {read} k z =
    let long = check_long k z in
    let (c, w) = k.enough long in
    let filled : (b : Book) → AcceptedBook book b → read ≡ lent_of b l = λ b a. w ∙ when_fine book _ _ (ap parse (sym a.bytes) ∙ parse-bytes b a.allowed) in
    record {
      checked = c;
      accepted = z;
      device = λ b a. rw (n_of_lem c z b a, m_of c z b a, filled b a) (tabled-device b l.table a.allowed long.0);
      weighed =
          λ b a.
          subst (λ (x : Lent). WeightsOf b.m b.weights x.weights) (sym (filled b a)) (weight-holds b l.weights a.allowed long.1.1.0);
    }

-- ---- the scratch, and 32 weights of its own
pub small_lends : {book scratch scratch' W : List ℕ} {f : Checking} → CheckSmallAs book scratch f scratch' → 64 ≤ length scratch → f.code ≡ 0
    → WeightsFilled book (replicate 32 0) W → Lending book (moved book f.n f.m scratch') W f
small_lends k enough z w =
    let c = k.checking enough in
    record {
      checked = c;
      accepted = z;
      device = λ b a. rw (n_of_lem c z b a, m_of c z b a) (k.device enough z b a.allowed a.bytes);
      weighed =
          λ b a.
          subst (WeightsOf b.m b.weights) (sym (w.each b a.allowed a.bytes))
          (weight-holds b (replicate 32 0) a.allowed (omega (arith, length-replicate {A = ℕ} 32 0)));
    }
