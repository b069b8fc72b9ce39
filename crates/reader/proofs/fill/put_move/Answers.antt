-- An entry stored, or one past the end. Assumes nothing.
use Rattle.reader.proofs.Stores.{move_put, move_past}
use Rattle.reader.proofs.fill.put_move.Goals as goal

pub returns-then-entry-table : goal.returns-then-entry-table
returns-then-entry-table c = move_put _ _ _ _ _ _ c.byte_at-state.ensures.value c.byte_at-command.ensures.value _ c.u64_at.ensures

pub returns-else-entry-table : goal.returns-else-entry-table
returns-else-entry-table c = move_past _ _ _ _ _ _ c.byte_at-state.ensures.value c.byte_at-command.ensures.value c.if-entry-table.false
