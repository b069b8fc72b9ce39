-- The worked cases at both sides of the limits of a book's bytes, by what parses and what is refused. Assumes nothing.
use mathlib.Core.Path.{◌≡◌, refl}
use mathlib.Core.Bool.{true}
use mathlib.Core.List.{List}
use Prim.Native.Nat.{ℕ}
use Rattle.base.specs.Tests.{pick, both}
use Rattle.base.specs.Compare.{less, at_most, same, differ}
use Rattle.base.specs.Masks.{clear_from}
use Rattle.octets.specs.Le.{bytes_le}
use Rattle.book.specs.Book.{Book, frame, two_bytes, all_one, weights_recs, WellFormed}
use Rattle.book.specs.Parse.{cut_after, kind_of, weights_of, move_of, item_of, step, scan, weights_in, moves_in, items_in, parse}
use Rattle.book.specs.Limits.{device_fine, weight_fine, weights_fine, move_fine, counts_fine, all_below, fields_fine}
use Rattle.book.specs.Parse.Parsed.{Ok}
use Rattle.book.specs.Edges.{Edges}
use Rattle.book.proofs.Fields.{all_on}
use Rattle.book.proofs.Reading.{parse-fine}
use Rattle.book.proofs.Example.{spoilt_by}

-- bytes that parse as some book, by computation
fine_by : (s : List ℕ) (b : Book) → all_below 256 s ≡ true → parse s ≡ Ok b → WellFormed s
fine_by s b h e = let (a, same_bytes) = parse-fine s b (all_on 256 s h) e in (b, a, same_bytes)

pub edges : Edges
unfolding frame bytes_le two_bytes weights_recs cut_after device_fine weight_fine weights_fine move_fine counts_fine all_below fields_fine kind_of weights_of move_of item_of step scan weights_in moves_in items_in parse pick both less at_most same differ clear_from all_one
edges =
    record {
      n_1 = fine_by _ _ refl refl;
      n_64 = fine_by _ _ refl refl;
      n_0 = spoilt_by _ _ _ refl refl;
      n_65 = spoilt_by _ _ _ refl refl;
      m_1 = fine_by _ _ refl refl;
      m_32 = fine_by _ _ refl refl;
      m_0 = spoilt_by _ _ _ refl refl;
      m_33 = spoilt_by _ _ _ refl refl;
      weights_within = fine_by _ _ refl refl;
      weight_0 = spoilt_by _ _ _ refl refl;
      weight_1001 = spoilt_by _ _ _ refl refl;
      k_1_r_0 = fine_by _ _ refl refl;
      k_8_r_8 = fine_by _ _ refl refl;
      k_0 = spoilt_by _ _ _ refl refl;
      k_9 = spoilt_by _ _ _ refl refl;
      r_9 = spoilt_by _ _ _ refl refl;
      items_64 = fine_by _ _ refl refl;
      last_move = fine_by _ _ refl refl;
      state_2 = spoilt_by _ _ _ refl refl;
      command_3 = spoilt_by _ _ _ refl refl;
      mask_1 = fine_by _ _ refl refl;
      mask_0 = spoilt_by _ _ _ refl refl;
      mask_4 = spoilt_by _ _ _ refl refl;
      item_within = fine_by _ _ refl refl;
      forward_3 = spoilt_by _ _ _ refl refl;
      reverse_3 = spoilt_by _ _ _ refl refl;
      phi_4 = spoilt_by _ _ _ refl refl;
      psi_4 = spoilt_by _ _ _ refl refl;
      bit_63 = fine_by _ _ refl refl;
      bit_63_of_63 = spoilt_by _ _ _ refl refl;
      rises = fine_by _ _ refl refl;
      again = spoilt_by _ _ _ refl refl;
      falls = spoilt_by _ _ _ refl refl;
    }
