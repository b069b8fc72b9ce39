-- Q's book as bytes: its 225 bytes are accepted, and read as the device and items of the joint table; with the item of Q2 in place of item 1 it is
-- refused at that item's record, with those of Q3 and Q4 behind it at the first of them. Assumes nothing.
use mathlib.Core.Path.{◌≡◌, refl, sym, ap, ◌∙◌, subst}
use mathlib.Core.Bool.{true}
use mathlib.Core.List.{List, [], ◌∷◌, ◌++◌}
use Prim.Native.Nat.{ℕ, ◌+◌, ◌*◌, ◌≤◌, ◌<◌}
use native.Mathlib.Omega.{arith}
use lib.Dec.{lit<}
use lib.ListN.{length, get_or, take, drop}
use Rattle.base.specs.Lists.{Each, Bytes}
use Rattle.base.specs.Sizes.{LongEnough}
use Rattle.base.specs.Tests.{pick, both, imp}
use Rattle.base.specs.Compare.{less, at_most, same, differ}
use Rattle.base.specs.Bounded.{all, any, union, seek}
use Rattle.base.specs.Cardinality.{member, present}
use Rattle.base.specs.Masks.{clear_from}
use Rattle.octets.specs.Le.{bytes_le}
use Rattle.reversal.specs.Device.{Device}
use Rattle.reversal.specs.Reversal.{Item, Accepted}
use Rattle.reversal.specs.Twelve.{made, items_q, item_q2, item_q3, item_q4}
use Rattle.reversal.specs.Computed.Sets.{after, able, reach, runs_back, ends, start_ok, reverses, start_used, effective, accepts}
use Rattle.reversal.specs.Computed.Units.{back_units, start_made, starts_made, item_made, items_made}
use Rattle.reversal.specs.Weighted.{dear, items_dear, items_even}
use Rattle.reversal.proofs.Cases.{twelve, weighted}
use Rattle.book.specs.Book.{Book, device_of, outcome_of, frame, two_bytes, all_one, weights_recs, items_of}
use Rattle.book.specs.Parse.{parse, cut_after, scan, kind_of, step, move_of, item_of, weights_of, weights_in, moves_in, items_in}
use Rattle.book.specs.Limits.{device_fine, weight_fine, weights_fine, move_fine, counts_fine, all_below, fields_fine}
use Rattle.book.specs.Parse.Parsed.{Ok}
use Rattle.book.specs.Lent.{Lent, sizes, WeightsRead}
use Rattle.book.specs.Buffers.{table_of}
use Rattle.book.specs.Example.{move, book_q, bytes_q, book_dear, bytes_dear, book_even, bytes_even}
use Rattle.book.proofs.Fields.{all_on}
use Rattle.book.proofs.Reading.{parse-fine}
use Rattle.book.proofs.Refused.{refused_exactly}
use Rattle.book.proofs.Table.{table_read}
use Rattle.book.proofs.Example.{bytes-book_q, allowed-book_q, device-book_q, bytes-book_dear, allowed-book_dear, device-book_dear, bytes-book_even, allowed-book_even, device-book_even}
use Rattle.reader.specs.Reads.{refusal}
use Rattle.reader.proofs.Cases.{bytes_q_lem, bytes_dear_lem}
use Rattle.checker.specs.declared.Checking.{Checking}
use Rattle.checker.specs.declared.TableChecking.{TableChecking}
use Rattle.checker.specs.Reasons.{code_of}
use Rattle.checker.specs.Checks.{AcceptedBook, place_of, with_units, Checks}
use Rattle.checker.specs.TableChecks.{refused, TableChecks, short, faulty, wrong, fine}
use Rattle.checker.specs.Cases.{Judges, QChecked, TableGives, TablesChecked}
use Rattle.checker.specs.Contract.{wrong_item, reason_for, reason_in, units_of}
use Rattle.checker.proofs.Exactly.{first-wrong, units_made}
use Rattle.checker.proofs.Unique.{made_unique, checked-fine, checked-wrong}
use Rattle.checker.proofs.TableChecks.{table_checks_unique}

-- the items of the two cases with weights
pub accepted_dear : AcceptedBook bytes_dear book_dear
accepted_dear =
    record { allowed = allowed-book_dear; bytes = bytes-book_dear; accepted = subst (λ (d : Device). Each (Accepted d) items_dear) (sym device-book_dear) weighted.accepted }

pub accepted_even : AcceptedBook bytes_even book_even
accepted_even =
    let (two, (three, _)) = weighted.accepted in
    record { allowed = allowed-book_even; bytes = bytes-book_even; accepted = subst (λ (d : Device). Each (Accepted d) items_even) (sym device-book_even) (three, (two, tt)) }

pub accepted_q : AcceptedBook bytes_q book_q
accepted_q =
    record { allowed = allowed-book_q; bytes = bytes-book_q; accepted = subst (λ (d : Device). Each (Accepted d) items_q) (sym device-book_q) twelve.q1 }

-- bytes that parse as a book whose item i is the first that the test turns down
pub refused_at : (s : List ℕ) (b : Book) → all_below 256 s ≡ true → parse s ≡ Ok b → wrong_item b < length (items_of b)
    → Judges s (with_units (refusal (code_of (reason_in b)) (place_of b (wrong_item b))) (units_of b))
refused_at s b h e l =
    let bytes = all_on 256 s h in
    let (a, same) = parse-fine s b bytes e in
    record {
      result =
          λ x long.
          let (units, u, q) = (checked-wrong bytes x long a same (first-wrong b a l)).0 in
          q ∙ ap (with_units _) (made_unique b (wrong_item b) (reason_in b) u (units_made b a l));
    }

-- and the weights are the book's
filled_at : (s : List ℕ) (b : Book) → all_below 256 s ≡ true → parse s ≡ Ok b → wrong_item b < length (items_of b)
    → {l : Lent} {r : Checking} {l' : Lent} → Checks s l r l' → LongEnough (sizes l) → WeightsRead b l.weights l'.weights
filled_at s b h e l x long =
    let bytes = all_on 256 s h in
    let (a, same) = parse-fine s b bytes e in
    (checked-wrong bytes x long a same (first-wrong b a l)).1.read.weights_read

-- Q's book with the item of Q2 in place of item 1, whose record stands from 129 to 153, and with others behind its items
book_q2 : Book
book_q2 = record { n = 3; m = 3; weights = book_q.weights; moves = book_q.moves; items = take 1 (items_of book_q) ++ (item_q2 ∷ drop 2 (items_of book_q)) }

dearer : Book
dearer = record { n = 3; m = 3; weights = dear; moves = book_q.moves; items = items_dear ++ (item_q3 ∷ []) }

longer : List Item → Book
longer xs = record { n = 3; m = 3; weights = book_q.weights; moves = book_q.moves; items = items_of book_q ++ xs }

pub q_checked : QChecked
unfolding pick both imp less at_most same differ all any union seek member clear_from bytes_le frame outcome_of after able reach runs_back ends start_ok reverses start_used effective accepts present back_units start_made starts_made item_made items_made wrong_item reason_for parse cut_after scan kind_of step device_fine move_fine counts_fine all_below fields_fine move_of item_of weights_in moves_in items_in weights_of weight_fine weights_fine two_bytes all_one weights_recs book_q2 longer dearer
q_checked =
    record {
      q1 = record { result = λ x long. (checked-fine bytes_q_lem x long accepted_q).0 };
      q2 = refused_at _ book_q2 refl refl (lit< tt);
      q3 = refused_at _ (longer (item_q3 ∷ [])) refl refl (lit< tt);
      q4 = refused_at _ (longer (item_q4 ∷ [])) refl refl (lit< tt);
      no_phi = refused_at _ (longer (made (1 ∷ []) (0 ∷ []) 0 1 ∷ [])) refl refl (lit< tt);
      no_psi = refused_at _ (longer (made (1 ∷ []) (0 ∷ []) 7 0 ∷ [])) refl refl (lit< tt);
      eight_first = refused_at _ (longer (item_q3 ∷ item_q4 ∷ [])) refl refl (lit< tt);
      twelve_first = refused_at _ (longer (item_q4 ∷ item_q3 ∷ [])) refl refl (lit< tt);
      stuck_first = refused_at _ (longer (made (2 ∷ []) (2 ∷ 1 ∷ []) 7 7 ∷ [])) refl refl (lit< tt);
      stuck_second = refused_at _ (longer (made (2 ∷ []) (1 ∷ 2 ∷ 0 ∷ []) 7 7 ∷ [])) refl refl (lit< tt);
      no_reverse = refused_at _ (longer (made (1 ∷ []) [] 7 1 ∷ [])) refl refl (lit< tt);
      dear = record { result = λ x long. (checked-fine bytes_dear_lem x long accepted_dear).0 };
      dear_wrong = refused_at _ dearer refl refl (lit< tt);
      dear_filled = λ x long. (filled_at _ dearer refl refl (lit< tt) x long).front;
    }

-- ---- with a table as the only buffer: an entry of the table too
abbrev table_at : Book → ℕ → ℕ → ℕ
table_at b state command = state * b.m + command

module _ (s : List ℕ) (b : Book) (h : all_below 256 s ≡ true) (e : parse s ≡ Ok b) (state command : ℕ) (in-n : state < b.n) (in-m : command < b.m) where
  bytes : Bytes s
  bytes = all_on 256 s h

  -- what one answer leaves, every other does
  gives : {answer : TableChecking} → ((table : List ℕ) → 2048 ≤ length table → TableChecks s table answer (table_of b table))
      → TableGives s answer (table_at b state command) ((device_of b).outcomes state command)
  gives here =
      record {
        result =
            λ {table} x long.
            let (r, t) = table_checks_unique bytes x (here table long) in
            (r, ap (λ (y : List ℕ). get_or y (table_at b state command) 0) t ∙ (table_read b table (parse-fine s b bytes e).0 long).entries state command in-n in-m);
      }

  table-wrong : wrong_item b < length (items_of b)
      → TableGives s (refused (code_of (reason_in b)) (place_of b (wrong_item b))) (table_at b state command) ((device_of b).outcomes state command)
  table-wrong l =
      let (a, same) = parse-fine s b bytes e in
      gives (λ table long. wrong long b a same (first-wrong b a l) refl (table_read b table a long))

  table-fine : AcceptedBook s b
      → TableGives s (record { code = 0; place = 0; n = b.n; m = b.m }) (table_at b state command) ((device_of b).outcomes state command)
  table-fine a =
      gives (λ table long. fine b (record { long = long; accepted = a; read = table_read b table a.allowed long }) refl)

-- a book of 4 states and 1 command
bytes_four : List ℕ
bytes_four = 2 ∷ 0 ∷ 1 ∷ 0 ∷ 4 ∷ 1 ∷ 10 ∷ 0 ∷ 2 ∷ 0 ∷ 3 ∷ 0 ∷ 1 ∷ 0 ∷ 0 ∷ 0 ∷ 0 ∷ 0 ∷ 0 ∷ 0 ∷ []

four : Book
four = record { n = 4; m = 1; weights = 1 ∷ []; moves = move 3 0 1 ∷ []; items = [] }

accepted-four : AcceptedBook bytes_four four
unfolding pick both less at_most same differ clear_from bytes_le parse cut_after scan kind_of step device_fine move_fine counts_fine all_below fields_fine move_of item_of weights_in moves_in items_in weights_of weight_fine weights_fine two_bytes all_one weights_recs bytes_four four
accepted-four = let (a, same) = parse-fine bytes_four four (all_on 256 bytes_four refl) refl in record { allowed = a; bytes = same; accepted = tt }

short_table : {book table : List ℕ} {r : TableChecking} {table' : List ℕ} → TableChecks book table r table' → length table ≡ 2047
    → (r ≡ record { code = 1; place = 0; n = 0; m = 0 }) × (table' ≡ table)
short_table (short l e k) n = (e, k)
short_table (faulty l f e k) n = absurd (omega arith)
short_table (wrong l b a s w e k) n = absurd (omega arith)
short_table (fine b g e) n = absurd (omega (arith, g.long))

pub tables_checked : TablesChecked
unfolding pick both imp less at_most same differ all any union seek member clear_from bytes_le frame outcome_of after able reach runs_back ends start_ok reverses start_used effective accepts wrong_item reason_for parse cut_after scan kind_of step device_fine move_fine counts_fine all_below fields_fine move_of item_of weights_in moves_in items_in weights_of weight_fine weights_fine two_bytes all_one weights_recs longer bytes_four four
tables_checked =
    record {
      q1 = table-fine _ book_q refl refl 0 2 (lit< tt) (lit< tt) accepted_q;
      q3 = table-wrong _ (longer (item_q3 ∷ [])) refl refl 0 2 (lit< tt) (lit< tt) (lit< tt);
      q4 = table-wrong _ (longer (item_q4 ∷ [])) refl refl 0 2 (lit< tt) (lit< tt) (lit< tt);
      four_one = table-fine _ four refl refl 3 0 (lit< tt) (lit< tt) accepted-four;
      cut =
          record {
            result =
                λ x long.
                table_checks_unique (all_on 256 (take 224 bytes_q) refl) x (faulty long ((refused_exactly (take 224 bytes_q) 2 201 (all_on 256 (take 224 bytes_q) refl)).0 refl) refl refl);
          };
      short = short_table;
    }
