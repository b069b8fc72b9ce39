-- The row of the move's state is changed, or none is. Assumes nothing.
use Rattle.std.proofs.Common.{refl, arith}
use Rattle.moves.proofs.Rows.{not-stored, row-stored}
use Rattle.moves.proofs.add_move.Goals as goal

pub returns-then-state-lt64 : goal.returns-then-state-lt64
returns-then-state-lt64 c =
    row-stored c.args.book.now c.args.at c.args.masks.now _ _ _ _ c.byte_at-state.ensures.value c.byte_at-command.ensures.value
    c.if-command-lt32.true c.if-state-lt64.true c.with_move.ensures refl

pub returns-else-command-lt32 : goal.returns-else-command-lt32
returns-else-command-lt32 c =
    not-stored c.args.book.now c.args.at c.args.masks.now _ _ c.byte_at-state.ensures.value c.byte_at-command.ensures.value (λ h l. omega arith)
