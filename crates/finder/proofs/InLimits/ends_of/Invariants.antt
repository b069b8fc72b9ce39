-- `ends_of`: the commands that are left lead on to where all of them lead from the start.
use Rattle.finder.specs.Searching.{lent}
use Rattle.finder.proofs.Kept.{Leading}
use Rattle.finder.proofs.InLimits.ends_of.Given as goal

abbrev pub invariant-loop-command : goal.invariant-loop-command
invariant-loop-command l = Leading (lent l.self) l.start l.command-items l.ends.mask l.command-index
