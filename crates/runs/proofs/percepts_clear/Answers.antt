-- Assumes nothing.
use Rattle.std.proofs.Common.{rules, tests, arith, ◌∙◌, ◌+◌, suc}
use native.Mathlib.Numerals.{add-one}
use Rattle.std.proofs.lemmas.Iterator.{YieldsList-from_range}
use Rattle.std.proofs.lemmas.Iterator.Search.{all_from_yields_List}
use Rattle.runs.specs.Computed.{last_of, clear}
use Rattle.runs.proofs.Reading.{all_range}
use Rattle.runs.proofs.percepts_clear.Goals as goal

pub returns : goal.returns
unfolding clear
returns c =
    let s = c.args.run.now in
    let k = c.last_point.result + 1 in
    all_from_yields_List (clear c.args.n s) _ _ _ c.all.ensures.ran (YieldsList-from_range 0 k k (search rules) (omega arith))
    (λ x b q k. search (rules, tests))
    ∙ (rw (c.last_point.ensures.value, add-one) (all_range (clear c.args.n s) (suc (last_of s))))
