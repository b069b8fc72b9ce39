-- `runs_on` meets its contract. Assumes nothing.
use mathlib.Core.Path.{sym, ap, ◌∙◌}
use Prim.Native.Nat.{ℕ, ◌-◌, ◌/◌, ◌%◌}
use Rattle.std.proofs.Common.{rules}
use Rattle.octets.specs.Le.{bytes_le}
use Rattle.states.proofs.Laws.{mask_of, sent_none, sent_some}
use Rattle.checker.specs.Contract.{back_of}
use Rattle.checker.proofs.Laws.{back_there, back_elsewhere, back_fails, back_more}
use Rattle.checker.proofs.+runs_on.Goals as goal

pub returns-then-is_only : goal.returns-then-is_only
returns-then-is_only g t c =
    let a = c.args in
    back_there (g.D.Outcomes.device a.device.now) a.set.mask a.rest a.left a.goal c.if-left-eq0.true (search rules) (sym c.is_only.ensures ∙ c.if-is_only.true)

pub returns-else-is_only : goal.returns-else-is_only
returns-else-is_only g t c =
    let a = c.args in
    back_elsewhere (g.D.Outcomes.device a.device.now) a.set.mask a.rest a.left a.goal c.if-left-eq0.true (search rules)
    (sym c.is_only.ensures ∙ c.if-is_only.false)

pub returns-in_default : goal.returns-in_default
returns-in_default g t c =
    let a = c.args in
    let d = g.D.Outcomes.device a.device.now in
    back_fails d a.set.mask a.rest a.left a.goal c.requires.0 c.requires.1 c.if-left-eq0.false (sent_none d (a.rest % 256) a.set.mask c.in_default.ensures)

pub returns : goal.returns
returns g t c =
    let a = c.args in
    let d = g.D.Outcomes.device a.device.now in
    let (able, next) = sent_some d (a.rest % 256) a.set.mask _ c.in-Some.ensures in
    c.runs_on.ensures
    ∙ ap (λ (v : ℕ). back_of d v (bytes_le (a.left - 1) (a.rest / 256)) a.goal) (mask_of next)
    ∙ back_more d a.set.mask a.rest a.left a.goal c.requires.0 c.requires.1 c.if-left-eq0.false able
