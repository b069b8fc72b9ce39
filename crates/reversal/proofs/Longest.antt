-- The case at the limits: what the computed forms give, carried to histories and chains. Assumes nothing.
use mathlib.Core.Path.{refl}
use Prim.Native.Nat.{ℕ, ◌<◌}
use lib.Dec.{lit<, lit≤}
use lib.ListN.{replicate}
use Rattle.base.specs.Sets.{NoBitFrom}
use Rattle.base.specs.Lists.{Each}
use Rattle.base.specs.Tests.{pick, both, imp}
use Rattle.base.specs.Bounded.{all, any, union, least, seek}
use Rattle.base.specs.Cardinality.{member}
use Rattle.base.specs.Masks.{clear_from, inside}
use Rattle.base.proofs.Parts.{each-replicate}
use Rattle.reversal.specs.Device.{entry}
use Rattle.reversal.specs.Answers.{Allowed}
use Rattle.reversal.specs.Twelve.{Q}
use Rattle.reversal.specs.Longest.{items_long, weights_long, run_long, Longest}
use Rattle.reversal.specs.Computed.Sets.{after, able, reach, runs_back, ends, start_ok, reverses, start_used, effective, accepts}
use Rattle.reversal.specs.Computed.Beliefs.{filtered, preimage, smoothed, belief}
use Rattle.reversal.specs.Computed.Least.{via, leasts, least_at, begins, chosen}
use Rattle.reversal.specs.Computed.Assembly.{same_list, fits, numbers, answer}
use Rattle.reversal.proofs.Cases.{clear, judged, item-allowed, weight, one, run-allowed, allowed, given}

below : (k : ℕ) → Each (λ c. c < 3) (replicate k 1)
below k = each-replicate (λ c. c < 3) k (lit< tt)

pub ok_long : Allowed Q weights_long items_long run_long
unfolding clear_from
ok_long =
    allowed one (weight 1000 tt tt) one (item-allowed _ (lit≤ tt) (lit≤ tt) (lit≤ tt) (below 1) (below 8) tt tt, tt)
    (run-allowed _ _ (lit≤ tt) refl (below 32) (each-replicate (NoBitFrom 3) 33 (clear 2 tt)))

pub longest : Longest
unfolding pick both imp all any union least seek member clear_from inside entry after able reach runs_back ends start_ok reverses start_used effective accepts filtered preimage smoothed belief via leasts least_at begins chosen same_list fits numbers answer
longest = record { accepted = ((judged _ tt).0 tt, tt); longest = given ok_long refl }
