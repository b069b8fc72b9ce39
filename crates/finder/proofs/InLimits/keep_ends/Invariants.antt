-- `keep_ends`: with the starts to come, what is stored and used so far becomes the whole.
use Rattle.states.specs.StateSets.{states_left}
use Rattle.states.proofs.Row.{Coming}
use Rattle.finder.specs.Searching.{lent}
use Rattle.finder.proofs.Kept.{keep_one, kept_below}
use Rattle.finder.proofs.InLimits.keep_ends.Given as goal

abbrev pub invariant-loop-start : goal.invariant-loop-start
invariant-loop-start l =
    let d = lent l.self in
    Coming (keep_one d l.sought) d.n (kept_below d l.sought l.initial.ends d.n) (l.ends, l.used.mask) (states_left l.start-iterator)
