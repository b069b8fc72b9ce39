-- Storing the records of the items that are left, from `p` on, gives the whole, and its length. Assumes nothing.
use Rattle.std.proofs.Common.{◌≡◌, ◌+◌, ◌-◌, ◌*◌, ◌≤◌, length}
use Rattle.std.proofs.lemmas.List.Edits.{sets}
use Rattle.writer.specs.Records.{items_bytes}
use Rattle.writer.proofs.records.Output.put_items.Given as goal

abbrev pub invariant-loop-i : goal.invariant-loop-i
invariant-loop-i l =
    (sets l.self.out.now l.self.end (items_bytes (l.c - l.i) l.s l.i) ≡ sets l.initial.self.out.now l.initial.self.end (items_bytes l.c l.s 0))
    × (l.self.end + length (items_bytes (l.c - l.i) l.s l.i) ≡ l.initial.self.end + length (items_bytes l.c l.s 0))
    × (l.self.end ≤ l.initial.self.end + 38 * l.i)
    × (l.self.out.ghost_name ≡ l.initial.self.out.ghost_name)
