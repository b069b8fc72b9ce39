-- `last_from`: the commands that lead from the states so far to the start alone, which with the states to come give the whole.
use Rattle.std.proofs.Common.{◌%◌, ◌^◌}
use Rattle.states.specs.StateSets.{states_left}
use Rattle.finder.specs.Searching.{lent}
use Rattle.finder.proofs.Last.{Asking, to_start, whole_from}
use Rattle.finder.proofs.InLimits.last_from.Given as goal

abbrev pub invariant-loop-state : goal.invariant-loop-state
invariant-loop-state l =
    let d = lent l.self in
    Asking (to_start d l.start) d.n d.m (whole_from d l.start l.commands (l.fn.set.mask % 2 ^ d.n)) l.left (states_left l.state-iterator)
