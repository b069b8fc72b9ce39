-- A move passed, and no more move. Assumes nothing.
use Rattle.std.proofs.Common.{◌∙◌}
use Rattle.items.proofs.Walk.{move-comes, none-comes}
use Rattle.items.proofs.first_item.Goals as goal

pub loop-preserved : goal.loop-preserved
loop-preserved c =
    let k = c.loop.invariant in
    let m = c.in-Some.ensures.steps in
    record { same = m.0 ∙ k.same; moves_left = λ b a e. move-comes k.same (k.moves_left b a e) m }

pub returns : goal.returns
returns c =
    let k = c.loop.invariant in
    record { begins = λ b a e. none-comes k.same (k.moves_left b a e) c.in_default.ensures.steps }
