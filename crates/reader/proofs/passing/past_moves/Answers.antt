use mathlib.Core.Path.{refl, sym, ◌∙◌}
use native.Mathlib.Omega.{arith}
use Rattle.reader.specs.Passing.Passing.{none, one}
use Rattle.reader.proofs.passing.past_moves.Goals as goal

pub returns-then-not-allows : goal.returns-then-not-allows
returns-then-not-allows c = (none, c.requires)

pub loop-at-init : goal.loop-at-init
loop-at-init c = record { passed = none; within = c.requires; moves = sym c.allows.ensures ∙ c.if-not-allows.false }

pub loop-at-preserved : goal.loop-at-preserved
loop-at-preserved c =
    let v = c.loop-at.invariant in
    record { passed = one v.passed (omega arith) c.in-Some.ensures v.moves; within = omega arith; moves = refl }
