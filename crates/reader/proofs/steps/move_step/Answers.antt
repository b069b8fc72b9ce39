-- each return is the first test that holds
use mathlib.Core.Path.{sym, ◌∙◌}
use Rattle.base.proofs.Picks.{tests, calls}
use Rattle.book.specs.Parse.{move_of}
use Rattle.reader.proofs.Laws.{move_goes}
use Rattle.reader.proofs.steps.move_step.Goals as goal

pub returns-then-not-allows-clause-value : goal.returns-then-not-allows-clause-value
returns-then-not-allows-clause-value c = search (tests, calls) depth 6

pub returns-then-body-ne10-clause-value : goal.returns-then-body-ne10-clause-value
returns-then-body-ne10-clause-value c = search (tests, calls) depth 12

pub returns-then-not-move_fine-clause-value : goal.returns-then-not-move_fine-clause-value
unfolding move_of
returns-then-not-move_fine-clause-value c =
    simp (← c.byte_at-state.ensures.value, ← c.byte_at-command.ensures.value, ← c.u64_at-mask.ensures) (search (tests, calls) depth 16)

pub returns-then-index-st-clause-value : goal.returns-then-index-st-clause-value
unfolding move_of
returns-then-index-st-clause-value c =
    simp (← c.byte_at-state.ensures.value, ← c.byte_at-command.ensures.value, ← c.u64_at-mask.ensures) (search (tests, calls) depth 20)

pub returns-clause-value : goal.returns-clause-value
returns-clause-value c =
    move_goes c.args.st c.args.body.now _ _ _ c.byte_at-state.ensures.value c.byte_at-command.ensures.value c.u64_at-mask.ensures (sym c.allows.ensures ∙ c.if-not-allows.false)
    c.if-body-ne10.false (sym c.move_fine.ensures ∙ c.if-not-move_fine.false) c.if-index-st.false
