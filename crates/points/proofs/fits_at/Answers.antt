use Rattle.std.proofs.Common.{rules}
use Rattle.points.proofs.Rows.{asks_other, upper_fails, lower_decides}
use Rattle.points.proofs.fits_at.Goals as goal
use Rattle.points.proofs.fits_at.Goals.{then-ahead-low, else-ahead-low}

pub returns-then-is_inside : goal.returns-then-is_inside
returns-then-is_inside c =
    elim c.if-ahead-low.branch [
      | then-ahead-low w ↦ lower_decides _ _ _ _ c.requires.0 w.if-ahead-low.true _ (search rules) (search rules)
      | else-ahead-low w ↦ search rules
    ]

pub returns-else-is_inside : goal.returns-else-is_inside
returns-else-is_inside c =
    elim c.if-ahead-low.branch [
      | then-ahead-low w ↦ rw c.if-is_inside.false (upper_fails _ _ _ _ c.requires.0 w.if-ahead-low.true (search rules))
      | else-ahead-low w ↦ rw c.if-is_inside.false (asks_other _ _ _ _ c.requires.0 (search rules))
    ]
