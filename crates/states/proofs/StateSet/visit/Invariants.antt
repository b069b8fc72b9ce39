-- The loop of `StateSet::visit`: with the states to come, what was gathered so far becomes the whole.
use Rattle.states.specs.StateSets.{states_left, visited_in}
use Rattle.states.specs.Visits.{gain}
use Rattle.states.proofs.Row.{Coming}
use Rattle.states.proofs.StateSet.visit.Given as goal

abbrev pub invariant-loop-state : goal.invariant-loop-state
invariant-loop-state g l =
    let d = g.D.Outcomes.device l.device in
    Coming (gain d l.command) d.n (visited_in d l.command l.fn.self.mask) (record { set = l.set; able = l.able; visits = l.visits }) (states_left l.state-iterator)
