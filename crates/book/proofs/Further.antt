-- The further worked books: their bytes, read as themselves; and the device P. Assumes nothing.
use mathlib.Core.Path.{◌≡◌, refl, sym}
use Prim.Native.Nat.{ℕ, ◌<◌}
use native.Mathlib.Omega.{arith}
use Rattle.base.specs.Tests.{pick, both}
use Rattle.base.specs.Compare.{less, at_most, same, differ}
use Rattle.base.specs.Masks.{clear_from}
use Rattle.base.specs.Tables.{every, by_rule}
use Rattle.base.proofs.Tables.{rule_at}
use Rattle.reversal.specs.Slips.{P}
use Rattle.octets.specs.Le.{bytes_le}
use Rattle.book.specs.Book.{outcome_of, device_of, AllowedBook, frame, two_bytes, all_one, weights_recs}
use Rattle.book.specs.Parse.{cut_after, kind_of, weights_of, move_of, item_of, step, scan, weights_in, moves_in, items_in, parse}
use Rattle.book.specs.Limits.{device_fine, weight_fine, weights_fine, move_fine, counts_fine, all_below, fields_fine}
use Rattle.book.specs.Parse.Parsed.{Ok}
use Rattle.book.specs.Further.{book_p, bytes_p, table_p, book_phi, bytes_phi, book_psi, bytes_psi, book_tie, bytes_tie, book_long, bytes_long, Further}
use Rattle.book.proofs.Device.{tabled_as}
use Rattle.book.proofs.Example.{allowed_by}

pub parse-bytes_p : parse bytes_p ≡ Ok book_p
unfolding frame bytes_le two_bytes weights_recs cut_after device_fine weight_fine weights_fine move_fine counts_fine all_below fields_fine kind_of weights_of move_of item_of step scan weights_in moves_in items_in parse pick both less at_most same differ clear_from all_one
parse-bytes_p = refl

pub parse-bytes_phi : parse bytes_phi ≡ Ok book_phi
unfolding frame bytes_le two_bytes weights_recs cut_after device_fine weight_fine weights_fine move_fine counts_fine all_below fields_fine kind_of weights_of move_of item_of step scan weights_in moves_in items_in parse pick both less at_most same differ clear_from all_one
parse-bytes_phi = refl

pub parse-bytes_psi : parse bytes_psi ≡ Ok book_psi
unfolding frame bytes_le two_bytes weights_recs cut_after device_fine weight_fine weights_fine move_fine counts_fine all_below fields_fine kind_of weights_of move_of item_of step scan weights_in moves_in items_in parse pick both less at_most same differ clear_from all_one
parse-bytes_psi = refl

pub parse-bytes_tie : parse bytes_tie ≡ Ok book_tie
unfolding frame bytes_le two_bytes weights_recs cut_after device_fine weight_fine weights_fine move_fine counts_fine all_below fields_fine kind_of weights_of move_of item_of step scan weights_in moves_in items_in parse pick both less at_most same differ clear_from all_one
parse-bytes_tie = refl

pub parse-bytes_long : parse bytes_long ≡ Ok book_long
unfolding frame bytes_le two_bytes weights_recs cut_after device_fine weight_fine weights_fine move_fine counts_fine all_below fields_fine kind_of weights_of move_of item_of step scan weights_in moves_in items_in parse pick both less at_most same differ clear_from all_one
parse-bytes_long = refl

pub allowed-book_p : AllowedBook book_p
unfolding all_below pick less
allowed-book_p = allowed_by bytes_p book_p refl parse-bytes_p

pub device-book_p : device_of book_p ≡ P
unfolding every by_rule both outcome_of pick same
device-book_p =
    sym
    (tabled_as book_p table_p allowed-book_p
    (λ (s c : ℕ) (hs : s < 2) (hc : c < 3). rule_at 3 (outcome_of book_p.moves) table_p tt s c hc (omega arith)))

pub further : Further
unfolding frame bytes_le two_bytes all_one weights_recs pick both same
further =
    record {
      bytes = refl;
      size = refl;
      device = device-book_p;
      bytes_of_phi = refl;
      bytes_of_psi = refl;
      bytes_of_tie = refl;
      bytes_of_long = refl;
    }
