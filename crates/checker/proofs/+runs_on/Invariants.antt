-- `runs_on`: the measure is the number of commands left.
use Rattle.checker.proofs.+runs_on.Given as goal

abbrev pub decreases-runs_on : goal.decreases-runs_on
decreases-runs_on g l = l.left
