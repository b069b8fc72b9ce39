-- `check_table` meets its contract: what `check_in_table` gives, as C is answered. Assumes nothing.
use Rattle.checker.proofs.Ways.{table_as}
use Rattle.checker.proofs.check_table.Goals as goal

pub returns : goal.returns
returns c = rw c.into.ensures (table_as c.check_in_table.ensures)
