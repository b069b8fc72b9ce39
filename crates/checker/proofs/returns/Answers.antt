-- `returns` meets its contract, inside the limits and outside. Assumes nothing.
use mathlib.Core.Path.{sym, ap, ◌∙◌}
use Rattle.std.specs.Prelude.{is_ok}
use Rattle.states.proofs.Laws.{limits_in}
use Rattle.checker.proofs.Laws.{returns_out, returns_back}
use Rattle.checker.proofs.returns.Goals as goal

pub runs_on-requires : goal.runs_on-requires
runs_on-requires g c = limits_in _ _ (sym c.in_limits.ensures ∙ c.if-in_limits.true)

pub returns-then-in_limits : goal.returns-then-in_limits
returns-then-in_limits g c =
    c.is_ok.ensures.value ∙ ap is_ok c.runs_on.ensures ∙ returns_back _ _ _ _ (sym c.in_limits.ensures ∙ c.if-in_limits.true)

pub returns-else-in_limits : goal.returns-else-in_limits
returns-else-in_limits g c = c.if-in_limits.false ∙ returns_out _ _ _ _ (sym c.in_limits.ensures ∙ c.if-in_limits.false)
