-- Storing the records of the entries that are left, from `p` on, gives the whole, and its length. Assumes nothing.
use Rattle.std.proofs.Common.{◌≡◌, ◌+◌, ◌-◌, ◌*◌, ◌≤◌, length}
use Rattle.std.proofs.lemmas.List.Edits.{sets}
use Rattle.writer.specs.Records.{moves_bytes}
use Rattle.writer.proofs.records.Output.put_row.Given as goal

abbrev pub invariant-loop-command : goal.invariant-loop-command
invariant-loop-command l =
    (sets l.self.out.now l.self.end (moves_bytes (l.m - l.command) l.t (l.state * l.m + l.command) l.m) ≡ sets l.initial.self.out.now l.initial.self.end (moves_bytes l.m l.t (l.state * l.m) l.m))
    × (l.self.end + length (moves_bytes (l.m - l.command) l.t (l.state * l.m + l.command) l.m) ≡ l.initial.self.end + length (moves_bytes l.m l.t (l.state * l.m) l.m))
    × (l.self.end ≤ l.initial.self.end + 14 * l.command)
    × (l.self.out.ghost_name ≡ l.initial.self.out.ghost_name)
