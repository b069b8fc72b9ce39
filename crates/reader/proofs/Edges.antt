-- Reading at both sides of its lengths, and each of its codes: by the books and refusals that stand in the bytes. Assumes nothing.
use mathlib.Core.Path.{◌≡◌, refl}
use mathlib.Core.Bool.{true}
use mathlib.Core.List.{List}
use Prim.Native.Nat.{ℕ}
use native.Mathlib.Omega.{arith}
use lib.Dec.{lit<}
use Rattle.base.specs.Sizes.{LongEnough}
use Rattle.base.specs.Tests.{pick, both}
use Rattle.base.specs.Compare.{less, same}
use Rattle.octets.specs.Le.{bytes_le}
use Rattle.book.specs.Book.{frame, two_bytes, all_one, weights_recs, outcome_of}
use Rattle.book.specs.Lent.{Lent, sizes, slots_bytes}
use Rattle.book.specs.Limits.{all_below}
use Rattle.book.specs.Refusal.{Refusal}
use Rattle.book.specs.Further.{book_p, bytes_p}
use Rattle.book.proofs.Fields.{all_on}
use Rattle.book.proofs.Example.{spoilt}
use Rattle.book.proofs.Further.{allowed-book_p, further}
use Rattle.reader.specs.declared.Reading.{Reading}
use Rattle.reader.specs.Reads.{refusal, done, Filled, Reads, short, faulty, fine}
use Rattle.reader.specs.Edges.{Stated, OneShorter, table_2047, slots_2175, weights_31, RefusedWith, UnevenRead, Edges}
use Rattle.reader.proofs.Unique.{reads_unique}
use Rattle.reader.proofs.Cases.{read_as, q_read}

-- ---- lengths
pub stated-long : {l : Lent} → Stated l → LongEnough (sizes l)
stated-long s = (omega (arith, s.table), (omega (arith, s.slots), (omega (arith, s.weights), tt)))

pub shorter_short : {l : Lent} → OneShorter l → LongEnough (sizes l) → ⊥
shorter_short (table_2047 e) long = omega (arith, long.0)
shorter_short (slots_2175 e) long = omega (arith, long.1.0)
shorter_short (weights_31 e) long = omega (arith, long.1.1.0)

too_short : {book : List ℕ} {l : Lent} {r : Reading} {l' : Lent} → Reads book l r l' → OneShorter l → (r ≡ refusal 1 0) × (l' ≡ l)
too_short (short n e k) s = (e, k)
too_short (faulty long f e k) s = absurd (shorter_short s long)
too_short (fine b f e) s = absurd (shorter_short s f.long)

-- ---- refusals
refused_by : {book : List ℕ} {code place : ℕ} → all_below 256 book ≡ true → Refusal book code place → RefusedWith book (refusal code place)
refused_by h g = record { result = λ x s. reads_unique (all_on 256 _ h) x (faulty (stated-long s) g refl refl) }

-- ---- 2 states and 3 commands
read_p : {l : Lent} {r : Reading} {l' : Lent} → Reads bytes_p l r l' → Stated l → (r ≡ done book_p) × Filled bytes_p l book_p l'
unfolding all_below pick less
read_p x s = read_as (all_on 256 bytes_p refl) allowed-book_p further.bytes x (stated-long s)

uneven_read : {l : Lent} {r : Reading} {l' : Lent} → Reads bytes_p l r l' → Stated l → UnevenRead l l'
unfolding outcome_of pick both same slots_bytes bytes_le
uneven_read x s =
    let f = (read_p x s).1.read in
    let e = f.table_read.entries in
    record {
      state_0 = (e 0 0 (lit< tt) (lit< tt), e 0 1 (lit< tt) (lit< tt), e 0 2 (lit< tt) (lit< tt));
      state_1 = (e 1 0 (lit< tt) (lit< tt), e 1 1 (lit< tt) (lit< tt), e 1 2 (lit< tt) (lit< tt));
      entries_kept = λ i h. f.table_read.kept i h;
      slots = f.slots_read.front;
      slots_kept = λ i h. f.slots_read.kept i 0 h;
      weights = f.weights_read.front;
      weights_kept = λ i h. f.weights_read.kept i 0 h;
    }

pub edges : Edges
unfolding pick both less same frame bytes_le two_bytes all_one weights_recs all_below
edges =
    record {
      good = record { result = λ x s. q_read.result x (stated-long s) };
      uneven = record { result = λ x s. (read_p x s).0 };
      uneven_read = uneven_read;
      one = too_short;
      two = refused_by refl spoilt.cut_off;
      three = refused_by refl spoilt.run_in_book;
      four = refused_by refl spoilt.counts_missing;
      five = refused_by refl spoilt.counts_are_out;
      six = refused_by refl spoilt.repeated;
      seven = refused_by refl spoilt.item_65;
      thirteen = refused_by refl spoilt.only_ones;
    }
