-- the moves from the start up to the place are passed
use Rattle.std.proofs.Common.{◌≡◌, true, ◌-◌, ◌≤◌, length}
use Rattle.book.specs.declared.kind.Kind.TheVariants.{MoveRecord}
use Rattle.book.specs.Parse.{allows}
use Rattle.reader.specs.Passing.{Passing}
use Rattle.reader.proofs.passing.past_moves.Given as goal

abbrev pub invariant-loop-at : goal.invariant-loop-at
invariant-loop-at l = record {
  passed : Passing l.s l.initial.at (record { phase = l.initial.phase; n = l.n; m = l.m; low = l.initial.low; items = l.items }) l.at
      (record { phase = l.phase; n = l.n; m = l.m; low = l.low; items = l.items });
  within : l.at ≤ length l.s;
  moves : allows l.phase MoveRecord ≡ true;
}

abbrev pub decreases-loop-at : goal.decreases-loop-at
decreases-loop-at l = length l.s - l.at
