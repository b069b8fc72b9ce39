-- `comes_back`: the starts so far come back, and with the starts to come they give the whole.
use Rattle.octets.specs.Le.{bytes_le}
use Rattle.states.specs.StateSets.{states_left}
use Rattle.finder.specs.Contract.{all_back}
use Rattle.finder.specs.Searching.{lent}
use Rattle.finder.proofs.Kept.{Backing}
use Rattle.finder.proofs.Search.comes_back.Given as goal

abbrev pub invariant-loop-start : goal.invariant-loop-start
invariant-loop-start l =
    let d = lent l.self.within in
    let commands = bytes_le l.row.count l.row.number in
    Backing d l.self.ends.now commands (all_back d l.self.ends.now l.self.used.mask commands) (states_left l.start-iterator)
