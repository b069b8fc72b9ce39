-- `judge_book` meets its contract. Assumes nothing.
use mathlib.Core.Path.{ap, ◌∙◌}
use Rattle.reversal.specs.Device.{Device}
use Rattle.checker.specs.Contract.{checking_by}
use Rattle.checker.proofs.Judging.{error_is, judged_ok, judged_err}
use Rattle.checker.proofs.judge_book.Goals as goal

pub returns-in_err-units : goal.returns-in_err-units
returns-in_err-units g c b a e same count =
    ap checking_by (error_is _ c.from_residual.ensures.1) ∙ judged_err b (c.in_err-units.ensures b a e same)

pub returns : goal.returns
returns g c b a e same count =
    let n = c.n.ensures ∙ ap (λ (d : Device). d.n) same in
    let m = c.m.ensures ∙ ap (λ (d : Device). d.m) same in
    rw (n, m, count) (judged_ok b (c.in_ok-units.ensures b a e same))
