-- `StateSet::visit` meets its contract. Assumes nothing.
use mathlib.Core.Path.{sym, ◌∙◌}
use native.Mathlib.Omega.{arith}
use Rattle.states.proofs.Laws.{limits_in, asked, visited_out, visited_all_lem, visits_left}
use Rattle.states.proofs.Row.{coming_first, coming_next}
use Rattle.states.proofs.StateSet.visit.Goals as goal

pub returns-then-not-in_limits : goal.returns-then-not-in_limits
returns-then-not-in_limits g c = c.outside_limits.ensures ∙ visited_out _ _ _ (sym c.in_limits.ensures ∙ c.if-not-in_limits.true)

pub loop-state-init : goal.loop-state-init
loop-state-init g c =
    let d = g.D.Outcomes.device c.args.device.now in
    let l = sym c.in_limits.ensures ∙ c.if-not-in_limits.false in
    rw (c.into_iter-state-iterator.ensures.into_iter_gives, c.below-state-items.ensures, c.n.ensures, c.of-set.ensures)
    (coming_first _ d.n c.args.self.mask _ _ (limits_in d.n d.m l).0 (visited_all_lem d c.args.command c.args.self.mask l))

pub loop-state-preserved : goal.loop-state-preserved
loop-state-preserved g c =
    let told =
    c.outcomes_at-outcomes.ensures
    (asked (g.D.Outcomes.device c.args.device.now) _ _ _ (sym c.in_limits.ensures ∙ c.if-not-in_limits.false) c.loop-state.invariant.below c.in-Some.ensures.steps) in
    rw (c.with-set.ensures, told) (coming_next _ _ _ _ _ c.loop-state.invariant _ _ c.in-Some.ensures.steps)

pub overflow_add-visits : goal.overflow_add-visits
overflow_add-visits g c =
    let few = visits_left _ _ _ _ _ _ _ (sym c.in_limits.ensures ∙ c.if-not-in_limits.false) c.in-Some.ensures.steps c.loop-state.invariant.gives in
    record { fits = omega (arith, few) }
