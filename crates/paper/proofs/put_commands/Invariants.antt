-- `paper::put_commands`: the first commands stand in their columns. Assumes nothing.
use Rattle.std.proofs.Common.{◌+◌, ◌*◌, ◌≤◌, take}
use Rattle.show.specs.Adds.{Adds}
use Rattle.paper.specs.Contract.{reverse_in}
use Rattle.paper.proofs.Puts.{in_threes}
use Rattle.paper.proofs.put_commands.Given as goal

abbrev pub invariant-loop-x : goal.invariant-loop-x
invariant-loop-x l =
    Adds l.initial.text (in_threes (take l.x (reverse_in l.slots l.a))) l.text × (l.text.end ≤ l.initial.text.end + 23 * l.x)
