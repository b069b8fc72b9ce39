-- `StateSet::before` meets its contract. Assumes nothing.
use mathlib.Core.Path.{sym, ◌∙◌}
use Rattle.states.proofs.Laws.{limits_in, mask_of, asked, keep_yes, keep_no, before_out, before-all}
use Rattle.states.proofs.Row.{coming_first, coming_next}
use Rattle.states.proofs.StateSet.before.Goals as goal

pub returns-then-not-in_limits : goal.returns-then-not-in_limits
returns-then-not-in_limits g c = c.of.ensures ∙ before_out _ _ _ _ (sym c.in_limits.ensures ∙ c.if-not-in_limits.true)

pub loop-source-init : goal.loop-source-init
loop-source-init g c =
    let d = g.D.Outcomes.device c.args.device.now in
    let l = sym c.in_limits.ensures ∙ c.if-not-in_limits.false in
    rw (c.into_iter-source-iterator.ensures.into_iter_gives, c.below-source-items.ensures, c.n.ensures, c.of-out.ensures)
    (coming_first _ d.n c.args.self.mask _ _ (limits_in d.n d.m l).0 (before-all d c.args.command c.args.target c.args.self.mask l))

pub loop-source-preserved-then-outcomes-target-ne0 : goal.loop-source-preserved-then-outcomes-target-ne0
loop-source-preserved-then-outcomes-target-ne0 g c =
    let told =
    c.outcomes_at-outcomes.ensures
    (asked (g.D.Outcomes.device c.args.device.now) _ _ _ (sym c.in_limits.ensures ∙ c.if-not-in_limits.false) c.loop-source.invariant.below c.in-Some.ensures.steps) in
    let d = g.D.Outcomes.device c.args.device.now in
    let more = mask_of c.add-out.ensures ∙ keep_yes d _ _ _ _ _ told c.if-outcomes-target-ne0.true in
    rw more (coming_next _ _ _ _ _ c.loop-source.invariant _ _ c.in-Some.ensures.steps)

pub loop-source-preserved : goal.loop-source-preserved
loop-source-preserved g c =
    let told =
    c.outcomes_at-outcomes.ensures
    (asked (g.D.Outcomes.device c.args.device.now) _ _ _ (sym c.in_limits.ensures ∙ c.if-not-in_limits.false) c.loop-source.invariant.below c.in-Some.ensures.steps) in
    let d = g.D.Outcomes.device c.args.device.now in
    let same = keep_no d c.args.command c.args.target c.loop-source.out.mask c.in-Some.source _ told c.if-outcomes-target-ne0.false in
    rw same (coming_next _ _ _ _ _ c.loop-source.invariant _ _ c.in-Some.ensures.steps)
