-- `show::Text::put_line`: what is written so far are the first numbers, with a space after each. Assumes nothing.
use Rattle.std.proofs.Common.{List, ℕ, ◌+◌, ◌*◌, ◌≤◌, take}
use Rattle.show.specs.Adds.{Adds, Numbers}
use Rattle.show.proofs.Texts.{spaced}
use Rattle.show.proofs.Text.put_line.Given as goal

abbrev pub invariant-loop-n : goal.invariant-loop-n
invariant-loop-n g l =
    ((ns : List ℕ) × Numbers g.T.Into.converts (take l.n-index l.others) ns × Adds l.initial.self (spaced ns) l.self)
    × (l.self.end ≤ l.initial.self.end + 21 * l.n-index)
