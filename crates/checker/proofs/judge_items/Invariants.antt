-- The loops of `judge_items`: the items passed are accepted, and the next one is where the walk is; the starts passed come back, and whether some of them was
-- used; the forward commands that are left lead on from the set to where all of them lead from the start; the units so far with those to come are the whole.
use mathlib.Core.Path.{◌≡◌}
use Prim.Native.Nat.{◌-◌}
use Rattle.book.specs.Book.{Book, AllowedBook, bytes_of}
use Rattle.items.specs.Items.{item_in}
use Rattle.states.specs.StateSets.{states_left}
use Rattle.checker.proofs.Items.{Leading, Passed}
use Rattle.checker.proofs.Judging.{Walking}
use Rattle.checker.proofs.judge_items.Given as goal

abbrev pub invariant-loop-at : goal.invariant-loop-at
invariant-loop-at g l =
    let walk = l.at-iterator in
    record {
      same : walk.book.now ≡ l.book;
      walking : (b : Book) → AllowedBook b → bytes_of b ≡ l.book → Walking (g.D.Outcomes.device l.device) l.book b walk.at l.units;
    }

abbrev pub invariant-loop-start : goal.invariant-loop-start
invariant-loop-start g l = Passed (g.D.Outcomes.device l.device) (item_in l.book l.at) l.initial.units (states_left l.start-iterator) l.units l.used

abbrev pub invariant-loop-j : goal.invariant-loop-j
invariant-loop-j g l = Leading (g.D.Outcomes.device l.device) l.start (item_in l.book l.at).forward l.ends.mask (l.j-end - l.j) l.rest
