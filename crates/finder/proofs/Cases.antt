-- The reverses found in the worked cases, computed, and that there is one answer only. Assumes nothing.
use mathlib.Core.Path.{◌≡◌, refl, sym, ap, ◌∙◌}
use mathlib.Core.List.{List, [], ◌∷◌, ◌++◌}
use Prim.Native.Nat.{ℕ, ◌+◌, ◌*◌, ◌<◌}
use native.Mathlib.Omega.{arith}
use lib.Dec.{lit<}
use lib.ListN.{length, get_or, take}
use Rattle.base.specs.Lists.{Bytes}
use Rattle.base.specs.Tests.{pick, both, imp}
use Rattle.base.specs.Compare.{less, at_most, same, differ}
use Rattle.base.specs.Bounded.{all, any, union}
use Rattle.base.specs.Cardinality.{member}
use Rattle.base.specs.Masks.{clear_from}
use Rattle.octets.specs.Le.{bytes_le}
use Rattle.reversal.specs.Twelve.{item_q3, item_q4}
use Rattle.reversal.specs.Computed.Sets.{after, able, reach, runs_back, ends, start_ok, reverses, start_used, effective, accepts}
use Rattle.book.specs.Book.{Book, device_of, outcome_of, frame, all_one}
use Rattle.book.specs.Parse.{parse, cut_after, scan, kind_of, step, move_of, item_of, weights_of, weights_in, moves_in, items_in}
use Rattle.book.specs.Limits.{device_fine, weight_fine, weights_fine, move_fine, counts_fine, all_below, fields_fine}
use Rattle.book.specs.Example.{move, book_q, bytes_q}
use Rattle.book.proofs.Fields.{all_on}
use Rattle.book.proofs.Reading.{parse-fine}
use Rattle.book.proofs.Table.{table_read}
use Rattle.checker.specs.declared.TableChecking.{TableChecking}
use Rattle.checker.specs.Checks.{AcceptedBook}
use Rattle.checker.specs.TableChecks.{refused, TableChecks}
use Rattle.checker.specs.Cases.{recorded, TableGives, TableKept}
use Rattle.checker.proofs.Cases.{accepted_q, tables_checked}
use Rattle.finder.specs.declared.Found.{Found}
use Rattle.finder.specs.Finds.{Sought, refusal, Finds, unaccepted, barred, none, found}
use Rattle.finder.specs.Contract.{holds, tries, lowest_row, shortest_row, found_in}
use Rattle.finder.specs.Cases.{Gives, Keeps, bytes_ring, bytes_heavy, RingFound, QFound}
use Rattle.finder.proofs.Unique.{answers_find, found_answers, finds_table, as_checked, finds_unique}

-- ---- of an accepted book, with an entry of the table
module _ {s : List ℕ} (h : Bytes s) {b : Book} (a : AcceptedBook s b) (state command : ℕ) (in-n : state < b.n) (in-m : command < b.m) where
  gives : (q : Sought) → Gives s q (found_in (device_of b) q) (state * b.m + command) ((device_of b).outcomes state command)
  gives q =
      record {
        result =
            λ {table} f long.
            let read = table_read b table a.allowed long in
            let (r, t) = finds_unique h f (answers_find b (record { long = long; accepted = a; read = read }) (found_answers a.allowed q)) in
            (r, ap (λ (y : List ℕ). get_or y (state * b.m + command) 0) t ∙ read.entries state command in-n in-m);
      }

-- ---- of one that is not, as checking has it
module _ {s : List ℕ} (h : Bytes s) {code place : ℕ} (n : code ≡ 0 → ⊥) where
  as_refused : {q : Sought} {table : List ℕ} {r : Found} {table' : List ℕ} {c : TableChecking}
      → Finds s q table r table' → TableChecks s table c table' → c ≡ refused code place → r ≡ refusal code place
  as_refused f x e =
      (as_checked h f x).1 (λ z. n (sym (ap (λ (y : TableChecking). y.code) e) ∙ z)) ∙ ap (λ (y : TableChecking). refusal y.code y.place) e

  refused_reading : {entry mask : ℕ} → TableGives s (refused code place) entry mask → (q : Sought) → Gives s q (refusal code place) entry mask
  refused_reading g q =
      record { result = λ f long. let (c, x) = finds_table f in let (e, t) = g.result x long in (as_refused f x e, t) }

  refused_keeping : TableKept s (refused code place) → (q : Sought) → Keeps s q (refusal code place)
  refused_keeping g q =
      record { result = λ f long. let (c, x) = finds_table f in let (e, t) = g.result x long in (as_refused f x e, t) }

short_table : {book : List ℕ} {q : Sought} {table : List ℕ} {r : Found} {table' : List ℕ} → Finds book q table r table' → length table ≡ 2047
    → (r ≡ refusal 1 0) × (table' ≡ table)
short_table (unaccepted x n e) l =
    let (c, t) = tables_checked.short x l in
    (e ∙ ap (λ (y : TableChecking). refusal y.code y.place) c, t)
short_table (barred b g n e) l = absurd (omega (arith, l, g.long))
short_table (none b g m n e) l = absurd (omega (arith, l, g.long))
short_table (found b g cs k e) l = absurd (omega (arith, l, g.long))

-- ---- the ring
ring : List ℕ → Book
ring weights = record {
  n = 8;
  m = 2;
  weights = weights;
  moves = move 0 0 2 ∷ move 0 1 4 ∷ move 1 0 4 ∷ move 1 1 8 ∷ move 2 0 8 ∷ move 2 1 16 ∷ move 3 0 16 ∷ move 3 1 32
      ∷ move 4 0 32 ∷ move 4 1 64 ∷ move 5 0 64 ∷ move 5 1 128 ∷ move 6 0 128 ∷ move 6 1 1 ∷ move 7 0 1 ∷ move 7 1 2 ∷ [];
  items = [];
}

bytes_ring_lem : Bytes bytes_ring
unfolding all_below pick less
bytes_ring_lem = all_on 256 bytes_ring refl

bytes_heavy_lem : Bytes bytes_heavy
unfolding all_below pick less
bytes_heavy_lem = all_on 256 bytes_heavy refl

accepted_ring : AcceptedBook bytes_ring (ring (1 ∷ 1 ∷ []))
unfolding pick both less at_most same differ clear_from parse cut_after scan kind_of step device_fine move_fine counts_fine all_below fields_fine move_of item_of weights_in moves_in items_in weights_of weight_fine weights_fine all_one ring
accepted_ring = let (a, e) = parse-fine bytes_ring (ring (1 ∷ 1 ∷ [])) bytes_ring_lem refl in record { allowed = a; bytes = e; accepted = tt }

accepted_heavy : AcceptedBook bytes_heavy (ring (1 ∷ 1000 ∷ []))
unfolding pick both less at_most same differ clear_from parse cut_after scan kind_of step device_fine move_fine counts_fine all_below fields_fine move_of item_of weights_in moves_in items_in weights_of weight_fine weights_fine all_one ring
accepted_heavy = let (a, e) = parse-fine bytes_heavy (ring (1 ∷ 1000 ∷ [])) bytes_heavy_lem refl in record { allowed = a; bytes = e; accepted = tt }

module _ (q : Sought) where
  in_ring : Gives bytes_ring q (found_in (device_of (ring (1 ∷ 1 ∷ []))) q) 13 1
  unfolding ring outcome_of pick both same
  in_ring = gives bytes_ring_lem accepted_ring 6 1 (lit< tt) (lit< tt) q

  in_heavy : Gives bytes_heavy q (found_in (device_of (ring (1 ∷ 1000 ∷ []))) q) 13 1
  unfolding ring outcome_of pick both same
  in_heavy = gives bytes_heavy_lem accepted_heavy 6 1 (lit< tt) (lit< tt) q

  in_q : Gives bytes_q q (found_in (device_of book_q) q) 2 6
  unfolding outcome_of pick both same all_below less
  in_q = gives (all_on 256 bytes_q refl) accepted_q 0 2 (lit< tt) (lit< tt) q

pub ring_found : RingFound
unfolding pick both imp less at_most same differ all any union member clear_from bytes_le outcome_of after able reach runs_back ends start_ok reverses start_used effective accepts counts_fine all_below fields_fine holds tries lowest_row shortest_row found_in ring
ring_found =
    record {
      size = refl;
      heavy_size = refl;
      seven = in_ring _;
      six = in_ring _;
      five = in_ring _;
      three = in_ring _;
      two = in_ring _;
      heavy = in_heavy _;
      none = in_ring _;
    }

pub q_found : QFound
unfolding pick both imp less at_most same differ all any union member clear_from bytes_le outcome_of after able reach runs_back ends start_ok reverses start_used effective accepts counts_fine all_below fields_fine holds tries lowest_row shortest_row found_in frame
q_found =
    record {
      one = in_q _;
      two_starts = in_q _;
      never_used = in_q _;
      no_psi = in_q _;
      no_phi = in_q _;
      phi_out = in_q _;
      psi_out = in_q _;
      no_command = in_q _;
      nine = in_q _;
      command_out = in_q _;
      eight = in_q _;
      item_wrong = refused_reading (all_on 256 (bytes_q ++ recorded item_q3) refl) (λ e. omega arith) tables_checked.q3 _;
      item_never_used = refused_reading (all_on 256 (bytes_q ++ recorded item_q4) refl) (λ e. omega arith) tables_checked.q4 _;
      cut = refused_keeping (all_on 256 (take 224 bytes_q) refl) (λ e. omega arith) tables_checked.cut _;
      short = short_table;
    }
