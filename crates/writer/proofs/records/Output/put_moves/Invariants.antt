-- Storing the records of the states that are left, from `p` on, gives the whole, and its length. Assumes nothing.
use Rattle.std.proofs.Common.{◌≡◌, ◌+◌, ◌-◌, ◌*◌, ◌≤◌, length}
use Rattle.std.proofs.lemmas.List.Edits.{sets}
use Rattle.writer.specs.Records.{moves_bytes}
use Rattle.writer.proofs.records.Output.put_moves.Given as goal

abbrev pub invariant-loop-state : goal.invariant-loop-state
invariant-loop-state l =
    (sets l.self.out.now l.self.end (moves_bytes ((l.n - l.state) * l.m) l.t (l.state * l.m) l.m) ≡ sets l.initial.self.out.now l.initial.self.end (moves_bytes (l.n * l.m) l.t 0 l.m))
    × (l.self.end + length (moves_bytes ((l.n - l.state) * l.m) l.t (l.state * l.m) l.m) ≡ l.initial.self.end + length (moves_bytes (l.n * l.m) l.t 0 l.m))
    × (l.self.end ≤ l.initial.self.end + 14 * (l.state * l.m))
    × (l.self.out.ghost_name ≡ l.initial.self.out.ghost_name)
