-- `show::lines` meets its contract: the second line follows the first for code 0 alone. Assumes nothing.
use Rattle.std.proofs.Common.{rules, refl, arith}
use Rattle.show.proofs.Texts.{numbers_are, lines-refused, lines-done, whole_row, whole_length}
use Rattle.show.proofs.lines.Goals as goal

pub returns-then-code-ne0-clause-out_after : goal.returns-then-code-ne0-clause-out_after
returns-then-code-ne0-clause-out_after c =
    let (ns, numbers, adds) = c.put_line.ensures.adds in
    whole_row (lines-refused c.args.plan.now adds (numbers_are numbers) (λ e. omega arith)) refl refl (search rules)

pub returns-then-code-ne0-clause-value : goal.returns-then-code-ne0-clause-value
returns-then-code-ne0-clause-value c =
    let (ns, numbers, adds) = c.put_line.ensures.adds in
    whole_length (lines-refused c.args.plan.now adds (numbers_are numbers) (λ e. omega arith)) refl refl

pub returns-clause-out_after : goal.returns-clause-out_after
returns-clause-out_after c =
    let (ns, numbers, adds) = c.put_line.ensures.adds in
    let (ms, plan, then) = c.put_line-2.ensures.adds in
    whole_row (lines-done c.args.plan.now adds (numbers_are numbers) _ _ (omega arith) c.min.ensures c.min-n.ensures then (numbers_are plan)) refl refl (search rules)

pub returns-clause-value : goal.returns-clause-value
returns-clause-value c =
    let (ns, numbers, adds) = c.put_line.ensures.adds in
    let (ms, plan, then) = c.put_line-2.ensures.adds in
    whole_length (lines-done c.args.plan.now adds (numbers_are numbers) _ _ (omega arith) c.min.ensures c.min-n.ensures then (numbers_are plan)) refl refl
