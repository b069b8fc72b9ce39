-- `shortest_row`: no row of fewer commands is found.
use Rattle.octets.specs.Le.{bytes_le}
use Rattle.finder.specs.Contract.{all_back}
use Rattle.finder.specs.Searching.{lent}
use Rattle.finder.proofs.Trying.{Longer}
use Rattle.finder.proofs.Search.shortest_row.Given as goal

abbrev pub invariant-loop-count : goal.invariant-loop-count
invariant-loop-count l =
    let d = lent l.self.within in
    Longer (λ count number. all_back d l.self.ends.now l.self.used.mask (bytes_le count number)) d.m l.count
