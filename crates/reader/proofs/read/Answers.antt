use Rattle.reader.proofs.Ways.{read_as}
use Rattle.reader.proofs.read.Goals as goal

pub returns : goal.returns
returns c = read_as c.read_into.result c.read_into.ensures c.into.ensures
