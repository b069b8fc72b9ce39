-- `StateSet::sent` meets its contract. Assumes nothing.
use mathlib.Core.Path.{sym, ◌∙◌}
use borrow.Author.Tests.{ne_eqb}
use Rattle.base.specs.Tests.{pick}
use Rattle.states.specs.Visits.{sent_along}
use Rattle.states.proofs.Laws.{limits_in, asked, sent_out, sent_all_lem}
use Rattle.states.proofs.Row.{row_below, each_below}
use Rattle.states.proofs.StateSet.sent.Goals as goal

pub returns-then-not-in_limits : goal.returns-then-not-in_limits
returns-then-not-in_limits g c = sent_out _ _ _ (sym c.in_limits.ensures ∙ c.if-not-in_limits.true)

pub loop-source-init : goal.loop-source-init
loop-source-init g c =
    let d = g.D.Outcomes.device c.args.device.now in
    let l = sym c.in_limits.ensures ∙ c.if-not-in_limits.false in
    rw (
      c.into_iter-source-iterator.ensures.into_iter_gives,
      c.below-source-items.ensures,
      c.n.ensures,
      c.of-set.ensures,
      row_below d.n c.args.self.mask (limits_in d.n d.m l).0,
    )
    (record { below = each_below d.n c.args.self.mask; gives = sent_all_lem d c.args.command c.args.self.mask l })

pub returns-then-outcomes-eq0 : goal.returns-then-outcomes-eq0
unfolding sent_along pick
returns-then-outcomes-eq0 g c =
    let told =
    c.outcomes_at-outcomes.ensures
    (asked (g.D.Outcomes.device c.args.device.now) _ _ _ (sym c.in_limits.ensures ∙ c.if-not-in_limits.false) c.loop-source.invariant.below c.in-Some.ensures.steps) in
    let gives = rw c.in-Some.ensures.steps at c.loop-source.invariant.gives in
    rw (← told, c.if-outcomes-eq0.true) at gives

pub loop-source-preserved : goal.loop-source-preserved
unfolding sent_along pick
loop-source-preserved g c =
    let told =
    c.outcomes_at-outcomes.ensures
    (asked (g.D.Outcomes.device c.args.device.now) _ _ _ (sym c.in_limits.ensures ∙ c.if-not-in_limits.false) c.loop-source.invariant.below c.in-Some.ensures.steps) in
    let gives = rw c.in-Some.ensures.steps at c.loop-source.invariant.gives in
    record {
      below = (rw c.in-Some.ensures.steps at c.loop-source.invariant.below).1;
      gives = rw c.with-set.ensures (rw (← told, ne_eqb _ 0 c.if-outcomes-eq0.false) at gives);
    }

pub returns : goal.returns
unfolding sent_along
returns g c = rw c.in-None.ensures.steps.0 at c.loop-source.invariant.gives
