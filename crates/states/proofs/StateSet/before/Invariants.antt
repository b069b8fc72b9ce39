-- The loop of `StateSet::before`: with the states to come, the set so far becomes the whole.
use Rattle.states.specs.StateSets.{states_left, before_in}
use Rattle.states.proofs.Laws.{keep}
use Rattle.states.proofs.Row.{Coming}
use Rattle.states.proofs.StateSet.before.Given as goal

abbrev pub invariant-loop-source : goal.invariant-loop-source
invariant-loop-source g l =
    let d = g.D.Outcomes.device l.device in
    Coming (keep d l.command l.target) d.n (before_in d l.command l.fn.self.mask l.target) l.out.mask (states_left l.source-iterator)
