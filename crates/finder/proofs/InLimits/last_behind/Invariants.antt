-- `last_behind`: the commands that are left, from the set so far, and a last one bring back what the whole row and that one do.
use Rattle.finder.specs.Searching.{lent, commands_of}
use Rattle.finder.proofs.Last.{back_with, Behind}
use Rattle.finder.proofs.InLimits.last_behind.Given as goal

abbrev pub invariant-loop-command : goal.invariant-loop-command
invariant-loop-command l =
    let d = lent l.self in
    Behind d l.start (back_with d l.start l.fn.set.mask (commands_of l.fn.row)) l.at.mask (commands_of l.command-iterator)
