-- each return is the first test that holds
use mathlib.Core.Path.{sym, ◌∙◌}
use Rattle.base.proofs.Picks.{tests, calls}
use Rattle.reader.proofs.steps.weights_step.Goals as goal

pub returns-then-not-allows-clause-value : goal.returns-then-not-allows-clause-value
returns-then-not-allows-clause-value c = search (tests, calls) depth 6

pub returns-then-body-st-clause-value : goal.returns-then-body-st-clause-value
returns-then-body-st-clause-value c = search (tests, calls) depth 12

pub returns-then-not-weights_fine-clause-value : goal.returns-then-not-weights_fine-clause-value
returns-then-not-weights_fine-clause-value c = search (tests, calls) depth 16

pub returns-then-all_one-clause-value : goal.returns-then-all_one-clause-value
returns-then-all_one-clause-value c = let t = sym c.all_one.ensures ∙ c.if-all_one.true in search (tests, calls) depth 20

pub returns-clause-value : goal.returns-clause-value
returns-clause-value c = let t = sym c.all_one.ensures ∙ c.if-all_one.false in search (tests, calls) depth 20
