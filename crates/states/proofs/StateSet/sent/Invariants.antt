-- The loop of `StateSet::sent`: sent to the states to come, the command gives the whole.
use Prim.Native.Nat.{◌<◌}
use mathlib.Core.Path.{◌≡◌}
use Rattle.base.specs.Lists.{Each}
use Rattle.states.specs.StateSets.{states_left, sent_in}
use Rattle.states.specs.Visits.{sent_along}
use Rattle.states.proofs.StateSet.sent.Given as goal

abbrev pub invariant-loop-source : goal.invariant-loop-source
invariant-loop-source g l =
    let d = g.D.Outcomes.device l.device in
    record { below : Each (λ s. s < d.n) (states_left l.source-iterator); gives : sent_along d l.command l.set.mask (states_left l.source-iterator) ≡ sent_in d l.command l.fn.self.mask }
