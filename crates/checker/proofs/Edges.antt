-- Checking at both sides of its lengths, each of its codes, and the further worked books. Assumes nothing.
use mathlib.Core.Path.{◌≡◌, refl, ap, ◌∙◌}
use mathlib.Core.Bool.{true}
use mathlib.Core.List.{List, [], ◌∷◌, ◌++◌}
use Prim.Native.Nat.{ℕ, ◌≤◌}
use native.Mathlib.Omega.{arith}
use lib.Dec.{lit<, lit≤}
use lib.ListN.{length}
use Rattle.base.specs.Tests.{pick, both, imp}
use Rattle.base.specs.Compare.{less, at_most, same, differ}
use Rattle.base.specs.Bounded.{all, any, union, seek}
use Rattle.base.specs.Cardinality.{member, present}
use Rattle.base.specs.Masks.{clear_from}
use Rattle.octets.specs.Le.{bytes_le}
use Rattle.reversal.specs.Slips.{one_stuck}
use Rattle.reversal.specs.Units.{sum_units}
use Rattle.reversal.specs.Computed.Sets.{after, able, reach, runs_back, ends, start_ok, reverses, start_used, effective, accepts}
use Rattle.reversal.specs.Computed.Units.{back_units, start_made, starts_made, item_made, items_made}
use Rattle.book.specs.Book.{Book, outcome_of, frame, two_bytes, all_one, weights_recs, items_of}
use Rattle.book.specs.Refusal.{Refusal}
use Rattle.book.specs.Parse.{parse, cut_after, scan, kind_of, step, move_of, item_of, weights_of, weights_in, moves_in, items_in}
use Rattle.book.specs.Limits.{device_fine, weight_fine, weights_fine, move_fine, counts_fine, all_below, fields_fine}
use Rattle.book.specs.Parse.Parsed.{Ok}
use Rattle.book.specs.Lent.{Lent}
use Rattle.book.specs.Further.{book_p, bytes_p, book_phi, bytes_phi, book_psi, bytes_psi, book_tie, bytes_tie, book_long, bytes_long}
use Rattle.book.proofs.Fields.{all_on}
use Rattle.book.proofs.Reading.{parse-fine}
use Rattle.book.proofs.Example.{spoilt}
use Rattle.book.proofs.Further.{parse-bytes_p, parse-bytes_phi, parse-bytes_psi, parse-bytes_tie, parse-bytes_long}
use Rattle.reader.specs.declared.Reading.{Reading}
use Rattle.reader.specs.Reads.{refusal, done, faulty, fine as read-fine}
use Rattle.reader.specs.Edges.{Stated, OneShorter, UnevenRead}
use Rattle.reader.proofs.Edges as read-edges
use Rattle.checker.specs.declared.Checking.{Checking}
use Rattle.checker.specs.Checks.{AcceptedBook, with_units, Checks, unread, wrong, fine}
use Rattle.checker.specs.Cases.{Judges}
use Rattle.checker.specs.Edges.{ChecksTo, RefusedWith, Edges}
use Rattle.checker.specs.Contract.{wrong_item, reason_for}
use Rattle.checker.proofs.Exactly.{all-accepted}
use Rattle.checker.proofs.Unique.{checks_unique, checked-fine}
use Rattle.checker.proofs.Cases.{refused_at, q_checked}

-- ---- lengths
exactly : {book : List ℕ} {answer : Checking} → Judges book answer → ChecksTo book answer
exactly j = record { result = λ x s. j.result x (read-edges.stated-long s) }

too_short : {book : List ℕ} {l : Lent} {r : Checking} {l' : Lent} → Checks book l r l' → OneShorter l → (r ≡ with_units (refusal 1 0) 0) × (l' ≡ l)
too_short (unread x n e) s = let (a, k) = (read-edges.edges).one x s in (e ∙ ap (λ (q : Reading). with_units q 0) a, k)
too_short (wrong b f w u e) s = absurd (read-edges.shorter_short s f.long)
too_short (fine b k e) s = absurd (read-edges.shorter_short s k.filled.long)

-- ---- what reading refuses
refused_by : {book : List ℕ} {code place : ℕ} → all_below 256 book ≡ true → Refusal book code place → (code ≡ 0 → ⊥)
    → RefusedWith book (with_units (refusal code place) 0)
refused_by h g n = record { result = λ x s. checks_unique (all_on 256 _ h) x (unread (faulty (read-edges.stated-long s) g refl refl) n refl) }

-- ---- books that are accepted, by computation
accepted_by : (s : List ℕ) (b : Book) → all_below 256 s ≡ true → parse s ≡ Ok b → length (items_of b) ≤ wrong_item b → AcceptedBook s b
accepted_by s b h e l =
    let (a, same_bytes) = parse-fine s b (all_on 256 s h) e in
    record { allowed = a; bytes = same_bytes; accepted = all-accepted b a l }

pub accepted_p : AcceptedBook bytes_p book_p
unfolding pick both imp less all any union seek member outcome_of after able reach runs_back ends start_ok reverses start_used effective accepts wrong_item all_below same
accepted_p = accepted_by bytes_p book_p refl parse-bytes_p (lit≤ tt)

pub accepted_phi_lem : AcceptedBook bytes_phi book_phi
unfolding pick both imp less all any union seek member outcome_of after able reach runs_back ends start_ok reverses start_used effective accepts wrong_item all_below same
accepted_phi_lem = accepted_by bytes_phi book_phi refl parse-bytes_phi (lit≤ tt)

pub accepted_psi_lem : AcceptedBook bytes_psi book_psi
unfolding pick both imp less all any union seek member outcome_of after able reach runs_back ends start_ok reverses start_used effective accepts wrong_item all_below same
accepted_psi_lem = accepted_by bytes_psi book_psi refl parse-bytes_psi (lit≤ tt)

pub accepted_tie_lem : AcceptedBook bytes_tie book_tie
unfolding pick both imp less all any union seek member outcome_of after able reach runs_back ends start_ok reverses start_used effective accepts wrong_item all_below same
accepted_tie_lem = accepted_by bytes_tie book_tie refl parse-bytes_tie (lit≤ tt)

pub accepted_long : AcceptedBook bytes_long book_long
unfolding pick both imp less all any union seek member outcome_of after able reach runs_back ends start_ok reverses start_used effective accepts wrong_item all_below same
accepted_long = accepted_by bytes_long book_long refl parse-bytes_long (lit≤ tt)

-- the answer for these
accepts_as : {s : List ℕ} {b : Book} → all_below 256 s ≡ true → AcceptedBook s b → {answer : Checking} → with_units (done b) (sum_units b.n (items_of b)) ≡ answer
    → ChecksTo s answer
accepts_as h a e = record { result = λ x s. (checked-fine (all_on 256 _ h) x (read-edges.stated-long s) a).0 ∙ e }

uneven_read : {l : Lent} {r : Checking} {l' : Lent} → Checks bytes_p l r l' → Stated l → UnevenRead l l'
unfolding all_below pick less
uneven_read x s =
    let k = (checked-fine (all_on 256 bytes_p refl) x (read-edges.stated-long s) accepted_p).1 in
    (read-edges.edges).uneven_read (read-fine book_p k.filled refl) s

stuck_p : Book
stuck_p = record { n = 2; m = 3; weights = book_p.weights; moves = book_p.moves; items = items_of book_p ++ (one_stuck ∷ []) }

pub edges : Edges
unfolding pick both imp less at_most same differ all any union seek member clear_from bytes_le frame outcome_of after able reach runs_back ends start_ok reverses start_used effective accepts present back_units start_made starts_made item_made items_made wrong_item reason_for parse cut_after scan kind_of step device_fine move_fine counts_fine all_below fields_fine move_of item_of weights_in moves_in items_in weights_of weight_fine weights_fine two_bytes all_one weights_recs stuck_p
edges =
    record {
      good = exactly q_checked.q1;
      uneven = accepts_as refl accepted_p refl;
      uneven_read = uneven_read;
      phi = accepts_as refl accepted_phi_lem refl;
      psi = accepts_as refl accepted_psi_lem refl;
      tie = accepts_as refl accepted_tie_lem refl;
      long = accepts_as refl accepted_long refl;
      eight = exactly q_checked.q3;
      stuck_at_one = exactly (refused_at _ stuck_p refl refl (lit< tt));
      twelve = exactly q_checked.q4;
      one = too_short;
      two = refused_by refl spoilt.cut_off (λ e. omega arith);
      three = refused_by refl spoilt.run_in_book (λ e. omega arith);
      four = refused_by refl spoilt.counts_missing (λ e. omega arith);
      five = refused_by refl spoilt.counts_are_out (λ e. omega arith);
      six = refused_by refl spoilt.repeated (λ e. omega arith);
      seven = refused_by refl spoilt.item_65 (λ e. omega arith);
      thirteen = refused_by refl spoilt.only_ones (λ e. omega arith);
    }
