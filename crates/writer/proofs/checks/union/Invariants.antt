-- `all` has the bits of each entry so far. Assumes nothing.
use Rattle.std.proofs.Common.{◌≡◌, true, ℕ, ◌<◌, get_or}
use Rattle.base.specs.Masks.{clear_from}
use Rattle.writer.proofs.checks.union.Given as goal

abbrev pub invariant-loop-states : goal.invariant-loop-states
invariant-loop-states l = (n j : ℕ) → j < l.states-index → clear_from n l.all ≡ true → clear_from n (get_or l.fn.t j 0) ≡ true
