-- `lowest_row`: the measure is the number of commands left; the loop's invariant: no command below c gives a row.
use Rattle.std.proofs.Common.{◌+◌, ◌^◌}
use Rattle.octets.specs.Le.{bytes_le}
use Rattle.finder.specs.Contract.{all_back}
use Rattle.finder.specs.Searching.{lent}
use Rattle.finder.proofs.Trying.{Trying}
use Rattle.finder.proofs.Search.+lowest_row.Given as goal

abbrev pub decreases-lowest_row : goal.decreases-lowest_row
decreases-lowest_row l = l.left

abbrev pub invariant-loop-c : goal.invariant-loop-c
invariant-loop-c l =
    let d = lent l.self.within in
    Trying (λ number. all_back d l.self.ends.now l.self.used.mask (bytes_le (l.row.count + l.left) number)) d.m l.left (256 ^ l.row.count) l.row.number l.c
