-- `last_behind` meets its contract. Assumes nothing.
use mathlib.Core.Path.{sym, ap, ◌∙◌}
use Rattle.base.specs.Tests.{both}
use Rattle.base.specs.Cardinality.{member}
use Rattle.states.proofs.Laws.{mask_of, sent_none, sent_some}
use Rattle.finder.specs.Searching.{lent}
use Rattle.finder.proofs.Passes.{passing_same, none_pass, either_not}
use Rattle.finder.proofs.Last.{behind_next, behind_stuck, behind_none}
use Rattle.finder.proofs.InLimits.last_behind.Goals as goal

pub returns-in_default : goal.returns-in_default
returns-in_default c =
    let it = c.args.self.now in
    let b = c.in-Some.command in
    none_pass _ (λ k h. either_not (member c.args.commands k)
    (behind_stuck (lent it) c.args.start it.states it.commands _ _ _ c.loop-command.invariant b _ c.in-Some.ensures.steps
    (sent_none (lent it) b c.loop-command.at.mask (sym c.in_default.is ∙ c.sent.ensures)) k))

pub loop-command-preserved : goal.loop-command-preserved
loop-command-preserved c =
    let it = c.args.self.now in
    let b = c.in-Some.command in
    let (able, set) = sent_some (lent it) b c.loop-command.at.mask _ (sym c.in-Some-sent.is ∙ c.sent.ensures) in
    behind_next (lent it) c.args.start it.states it.commands _ _ _ c.loop-command.invariant b _ c.in-Some.ensures.steps _ able (mask_of set)

pub returns : goal.returns
returns c =
    let it = c.args.self.now in
    passing_same c.last_from.ensures (λ k h. ap (both (member c.args.commands k))
    (behind_none (lent it) c.args.start it.states it.commands _ _ _ c.loop-command.invariant c.in-None.ensures.steps.0 k))
