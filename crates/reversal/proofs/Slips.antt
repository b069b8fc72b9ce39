-- The cases that the twelve can't tell: what the computed forms give, carried to paths, histories and chains. Assumes nothing.
use mathlib.Core.Path.{◌≡◌, refl}
use mathlib.Core.Bool.{false}
use mathlib.Core.List.{List, [], ◌∷◌}
use Prim.Native.Nat.{ℕ, ◌+◌, ◌*◌}
use native.Mathlib.Omega.{arith}
use lib.Dec.{T, lit<, lit≤}
use lib.ListN.{get_or}
use Rattle.base.specs.Sets.{NoBitFrom}
use Rattle.base.specs.Tests.{pick, both, imp}
use Rattle.base.specs.Bounded.{all, any, union, least, seek}
use Rattle.base.specs.Cardinality.{member, present}
use Rattle.base.specs.Masks.{clear_from, inside}
use Rattle.base.proofs.Bounded.{all_at}
use Rattle.base.proofs.Masks.{clear↔, in_zero}
use Rattle.reversal.specs.Device.{Proper, entry}
use Rattle.reversal.specs.Reversal.{Reverses}
use Rattle.reversal.specs.Units.{UnitsToFailure}
use Rattle.reversal.specs.Answers.{Allowed}
use Rattle.reversal.specs.Twelve.{Q, ones}
use Rattle.reversal.specs.Slips.{items_phi, run_phi, items_psi, run_psi, items_tie, run_tie, P, one_stuck, Slips}
use Rattle.reversal.specs.Computed.Sets.{after, able, reach, runs_back, ends, start_ok, reverses, start_used, effective, accepts}
use Rattle.reversal.specs.Computed.Units.{back_units, start_made, starts_made, item_made}
use Rattle.reversal.specs.Computed.Beliefs.{filtered, preimage, smoothed, belief}
use Rattle.reversal.specs.Computed.Least.{via, leasts, least_at, begins, chosen}
use Rattle.reversal.specs.Computed.Assembly.{same_list, fits, numbers, answer}
use Rattle.reversal.proofs.Paths.{led→leads}
use Rattle.reversal.proofs.Reversals.{tabled_proper, reverses↔}
use Rattle.reversal.proofs.Units.{units_to_failure}
use Rattle.reversal.proofs.Assembling.{linked→chain}
use Rattle.reversal.proofs.Cases.{clear, judged, item-allowed, run-allowed, one, seven, allowed, given}

-- ---- on Q
pub ok_phi : Allowed Q ones items_phi run_phi
unfolding clear_from
ok_phi =
    allowed one one one (item-allowed _ (lit≤ tt) (lit≤ tt) (lit≤ tt) (lit< tt, tt) (lit< tt, tt) tt tt, tt)
    (run-allowed _ _ (lit≤ tt) refl (lit< tt, tt) (clear 1 tt, (seven, tt)))

pub ok_psi : Allowed Q ones items_psi run_psi
unfolding clear_from
ok_psi =
    allowed one one one (item-allowed _ (lit≤ tt) (lit≤ tt) (lit≤ tt) (lit< tt, tt) (lit< tt, tt) tt tt, tt)
    (run-allowed _ _ (lit≤ tt) refl (lit< tt, tt) (seven, (seven, tt)))

pub ok_tie : Allowed Q ones items_tie run_tie
unfolding clear_from
ok_tie =
    allowed one one one (
      item-allowed _ (lit≤ tt) (lit≤ tt) (lit≤ tt) (lit< tt, tt) tt tt tt,
      (
        item-allowed _ (lit≤ tt) (lit≤ tt) (lit≤ tt) (lit< tt, tt) (lit< tt, tt) tt tt,
        (item-allowed _ (lit≤ tt) (lit≤ tt) (lit≤ tt) (lit< tt, (lit< tt, tt)) (lit< tt, tt) tt tt, tt),
      ),
    )
    (run-allowed _ _ (lit≤ tt) refl (lit< tt, (lit< tt, tt)) (seven, (clear 2 tt, (seven, tt))))

-- ---- on P
table : List ℕ
table = 1 ∷ 2 ∷ 3 ∷ 1 ∷ 2 ∷ 0 ∷ []

entries : T (all (λ i. clear_from 2 (get_or table i 0)) 6)
unfolding all both clear_from table
entries = tt

proper : Proper P
unfolding table
proper =
    tabled_proper 2 3 table
    (λ s c ls lc. (clear↔ 2 (get_or table (s * 3 + c) 0)).0 (all_at (λ i. clear_from 2 (get_or table i 0)) 6 entries (s * 3 + c) (omega arith)))

start : NoBitFrom 2 one_stuck.psi
unfolding clear_from
start = (clear↔ 2 1).0 tt

fails : reverses P one_stuck ≡ false
unfolding pick both imp all union member entry after able reach runs_back ends start_ok reverses
fails = refl

not-reverse : Reverses P one_stuck → ⊥
unfolding pick both imp all union member entry after able reach runs_back ends start_ok reverses
not-reverse r = (reverses↔ P proper one_stuck start).1 r

units : UnitsToFailure P one_stuck 2
unfolding pick both imp all union member present entry after able reach runs_back ends start_ok back_units start_made starts_made item_made
units = units_to_failure P proper one_stuck start fails

pub slips : Slips
unfolding pick both imp all any union least seek member clear_from inside entry after able reach runs_back ends start_ok reverses start_used effective accepts filtered preimage smoothed belief via leasts least_at begins chosen same_list fits numbers answer
slips =
    record {
      accepted_phi = ((judged _ tt).0 tt, tt);
      accepted_psi = ((judged _ tt).0 tt, tt);
      accepted_tie = ((judged _ tt).0 tt, ((judged _ tt).0 tt, ((judged _ tt).0 tt, tt)));
      phi = given ok_phi refl;
      psi = given ok_psi refl;
      tie = given ok_tie refl;
      tie_also = (linked→chain Q ones items_tie _ ok_tie (2 ∷ []) 2 (lit≤ tt) (lit< tt, tt, refl), refl);
      stuck_at_one = not-reverse;
      one_arrives = (led→leads P (2 ∷ []) 0 0 (0, proper 0 2 0 refl, refl), led→leads P (2 ∷ 0 ∷ []) 0 0 (0, proper 0 2 0 refl, (0, proper 0 0 0 refl, refl)));
      one_is_stuck = (led→leads P (2 ∷ []) 0 1 (1, proper 0 2 1 refl, refl), λ Y t. in_zero Y t.outcome);
      one_stuck_units = units;
    }
