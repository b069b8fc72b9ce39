-- `last_commands`: the commands that bring the starts so far back, which with the starts to come give the whole.
use Rattle.octets.specs.Le.{bytes_le}
use Rattle.states.specs.StateSets.{states_left}
use Rattle.finder.specs.Searching.{lent}
use Rattle.finder.proofs.Last.{Asking, back_by, whole_back}
use Rattle.finder.proofs.Search.last_commands.Given as goal

abbrev pub invariant-loop-start : goal.invariant-loop-start
invariant-loop-start l =
    let d = lent l.self.within in
    let row = bytes_le l.row.count l.row.number in
    Asking (back_by d l.self.ends.now row) d.n d.m (whole_back d l.self.ends.now row l.self.used.mask) l.commands (states_left l.start-iterator)
