-- `find` meets its contract. Assumes nothing.
use Rattle.finder.proofs.find.Goals as goal

pub returns : goal.returns
returns c = rw c.into.ensures c.row_in.ensures
