-- `outcomes`: none outside the limits and past n. Assumes nothing.
use mathlib.Core.Path.{sym, ◌∙◌}
use Rattle.states.proofs.Laws.{limits_in, outcomes_out, outcomes-limits}
use Rattle.states.proofs.outcomes.Goals as goal
use Rattle.states.proofs.outcomes.Goals.{else-in_limits-via-then-in_limits+else-state-n, else-in_limits-via-else-in_limits}

pub returns-then-state-n : goal.returns-then-state-n
returns-then-state-n g c =
    let (few, m) = limits_in _ _ (sym c.in_limits.ensures ∙ c.if-in_limits.true) in
    c.outcomes_at.ensures (rw (← c.n.ensures) c.if-state-n.true, few, m) ∙ sym (outcomes-limits (g.D.Outcomes.device c.args.device.now) _ _ few m)

pub returns-else-in_limits : goal.returns-else-in_limits
returns-else-in_limits g c =
    let d = g.D.Outcomes.device c.args.device.now in
    elim c.else-in_limits.branch [
      | else-in_limits-via-then-in_limits+else-state-n w ↦
          let (few, m) = limits_in d.n d.m (sym c.in_limits.ensures ∙ w.if-in_limits.true) in
          let none = g.met.D.Outcomes.none_past c.args.device.now c.args.state c.args.command (rw (← w.n.ensures) w.if-state-n.false) in
          sym (outcomes-limits d c.args.state c.args.command few m ∙ none)
      | else-in_limits-via-else-in_limits w ↦ outcomes_out d _ _ (sym c.in_limits.ensures ∙ w.if-in_limits.false)
    ]
