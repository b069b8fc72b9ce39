-- The forecasts of Q's book, by the books that stand in its bytes. Assumes nothing.
use mathlib.Core.Path.{◌≡◌, refl}
use mathlib.Core.Bool.{true}
use mathlib.Core.List.{List, []}
use Prim.Native.Nat.{ℕ, ◌≤◌, ◌<◌}
use lib.Dec.{lit<, lit≤}
use lib.ListN.{take}
use Rattle.base.specs.Lists.{Bytes}
use Rattle.base.specs.Tests.{pick, both}
use Rattle.base.specs.Compare.{less, at_most, same, differ}
use Rattle.base.specs.Cardinality.{member, present}
use Rattle.base.specs.Masks.{clear_from}
use Rattle.reversal.specs.Computed.Units.{larger, largest_from}
use Rattle.reversal.proofs.Sizes.{largest-is}
use Rattle.octets.specs.Le.{bytes_le}
use Rattle.book.specs.Book.{Book, AllowedBook, bytes_of, WellFormed, frame, two_bytes, all_one, weights_recs, items_of}
use Rattle.book.specs.Refusal.{Refusal}
use Rattle.book.specs.Parse.{parse, cut_after, scan, kind_of, step, move_of, item_of, weights_of, weights_in, moves_in, items_in}
use Rattle.book.specs.Parse.Parsed.{Ok}
use Rattle.book.specs.Limits.{device_fine, weight_fine, weights_fine, move_fine, counts_fine, all_below, fields_fine}
use Rattle.book.specs.Example.{book_q, bytes_q, book_dear}
use Rattle.book.specs.Further.{book_p, bytes_p}
use Rattle.book.proofs.Fields.{all_on}
use Rattle.book.proofs.Reading.{parse-fine}
use Rattle.book.proofs.Example.{bytes-book_q, allowed-book_q, bytes-book_dear, allowed-book_dear, spoilt}
use Rattle.book.proofs.Further.{allowed-book_p, further}
use Rattle.reader.proofs.Cases.{bytes_q_lem, bytes_dear_lem}
use Rattle.forecast.specs.Forecasts.{refusal, foreseen, faulty, long, fine}
use Rattle.forecast.specs.Cases.{Foresees, QForecast}
use Rattle.forecast.proofs.Unique.{forecasts_unique}

module _ {s : List ℕ} (h : Bytes s) (i : ℕ) where
  by_book : (b : Book) → AllowedBook b → bytes_of b ≡ s → i ≤ 32 → Foresees s i (foreseen b i (largest_from 0 (items_of b)))
  by_book b a e l = record { result = λ f. forecasts_unique h f (fine b a e l (largest-is (items_of b)) refl) }

  by_parse : (b : Book) → parse s ≡ Ok b → i ≤ 32 → Foresees s i (foreseen b i (largest_from 0 (items_of b)))
  by_parse b e l = let (a, same) = parse-fine s b h e in by_book b a same l

  by_length : WellFormed s → 32 < i → Foresees s i (refusal 9 0)
  by_length w l = record { result = λ f. forecasts_unique h f (long w l refl) }

by_refusal : {s : List ℕ} (i : ℕ) {code place : ℕ} → all_below 256 s ≡ true → Refusal s code place → Foresees s i (refusal code place)
by_refusal i h g = record { result = λ f. forecasts_unique (all_on 256 _ h) f (faulty g refl) }

pub q_forecast : QForecast
unfolding larger largest_from present member pick both less at_most same differ clear_from parse cut_after scan kind_of step device_fine move_fine counts_fine all_below fields_fine move_of item_of weights_in moves_in items_in weights_of weight_fine weights_fine all_one frame bytes_le two_bytes weights_recs
q_forecast =
    record {
      empty_run = by_book bytes_q_lem 0 book_q allowed-book_q bytes-book_q (lit≤ tt);
      two = by_book bytes_q_lem 2 book_q allowed-book_q bytes-book_q (lit≤ tt);
      longest = by_book bytes_q_lem 32 book_q allowed-book_q bytes-book_q (lit≤ tt);
      too_long = by_length bytes_q_lem 33 (book_q, allowed-book_q, bytes-book_q) (lit< tt);
      dear = by_book bytes_dear_lem 5 book_dear allowed-book_dear bytes-book_dear (lit≤ tt);
      no_items =
          by_parse (all_on 256 (take 104 bytes_q) refl) 32 (record { n = 3; m = 3; weights = book_q.weights; moves = book_q.moves; items = [] }) refl (lit≤ tt);
      cut_off = by_refusal 33 refl spoilt.cut_off;
      three = by_refusal 33 refl spoilt.run_in_book;
      four = by_refusal 33 refl spoilt.counts_missing;
      five = by_refusal 33 refl spoilt.counts_are_out;
      six = by_refusal 33 refl spoilt.repeated;
      seven = by_refusal 33 refl spoilt.item_65;
      thirteen = by_refusal 33 refl spoilt.only_ones;
      uneven = by_book (all_on 256 bytes_p refl) 32 book_p allowed-book_p further.bytes (lit≤ tt);
    }
