-- The first that is found is the lowest. Assumes nothing.
use Rattle.std.proofs.Common.{rules, tests, arith, ◌∙◌}
use Rattle.std.proofs.lemmas.Iterator.{YieldsList-from_range}
use Rattle.std.proofs.lemmas.Iterator.Search.{find_from_yields_List}
use Rattle.writer.specs.Lowest.{slot_wrong, lowest_slot}
use Rattle.writer.proofs.Scans.{first_found}
use Rattle.writer.proofs.checks.judge_slots.Goals as goal

pub returns : goal.returns
unfolding lowest_slot
returns c =
    let test = slot_wrong c.args.n c.args.m c.args.s.now in
    let f = find_from_yields_List test _ _ c.find.result c.find.ensures.ran (YieldsList-from_range 0 c.args.c c.args.c (search rules) (omega arith))
    (λ x b q k. search (rules, tests)) in
    c.unless_found.ensures ∙ first_found test c.args.c c.find.result f
