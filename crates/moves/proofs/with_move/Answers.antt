-- By whether the row has a command. Assumes nothing.
use Rattle.std.proofs.Common.{arith}
use Rattle.moves.proofs.Rows.{row-begun}
use Rattle.moves.proofs.with_move.Goals as goal

pub returns : goal.returns
returns c =
    let a = c.args in
    row-begun a.row a.place a.command c.requires c.if-row-lt65536.begun (λ h. omega arith) (λ h. omega arith)
