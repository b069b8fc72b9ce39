-- Assumes nothing.
use Rattle.std.proofs.Common.{rules}
use Rattle.moves.proofs.Rows.{no_command, not_found, found}
use Rattle.moves.proofs.outcomes.Goals.{then-command-ge48-via-then-command-ge48, then-command-ge48-via-else-command-ge48+then-row-command-ne1}
use Rattle.moves.proofs.outcomes.Goals as goal

pub returns-then-command-ge48 : goal.returns-then-command-ge48
returns-then-command-ge48 c =
    elim c.then-command-ge48.branch [
      | then-command-ge48-via-then-command-ge48 w ↦ no_command _ _ _ w.if-command-ge48.true (search rules)
      | then-command-ge48-via-else-command-ge48+then-row-command-ne1 w ↦ not_found _ _ _ w.if-row-command-ne1.true
    ]

pub returns : goal.returns
returns c = found _ _ _ _ _ c.if-row-command-ne1.false c.count_below-before.ensures.value c.whole_at.ensures
