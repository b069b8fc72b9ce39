-- `only_to`: of the commands below c those that lead to the goal alone are found, and the bit is that of c.
use Rattle.std.proofs.Common.{◌≡◌, ◌^◌, eqb}
use Rattle.finder.specs.Contract.{Passing}
use Rattle.finder.specs.Searching.{lent}
use Rattle.finder.proofs.InLimits.only_to.Given as goal

abbrev pub invariant-loop-c : goal.invariant-loop-c
invariant-loop-c l = (l.bit ≡ 2 ^ l.c) × Passing l.c (λ c. eqb ((lent l.self).outcomes l.state c) l.goal) l.found
