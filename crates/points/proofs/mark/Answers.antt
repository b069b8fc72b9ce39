use Rattle.std.proofs.Common.{rules, ◌+◌}
use Rattle.points.proofs.Rows.{mark_start, mark_in, mark_out, mark_end}
use Rattle.points.proofs.mark.Goals as goal
use Rattle.points.proofs.mark.Goals.{then-fits_at, else-fits_at}

pub loop-j-init : goal.loop-j-init
loop-j-init c = (mark_start _ _ _ _ _ c.requires.2, search rules)

pub loop-j-preserved : goal.loop-j-preserved
loop-j-preserved c =
    let g = c.loop-j.invariant.0 in (
      elim c.if-fits_at.branch [
        | then-fits_at w ↦ rw w.rows-is (mark_in _ _ _ _ _ g _ c.fits_at.ensures w.if-fits_at.true (search rules) (search rules))
        | else-fits_at w ↦ rw w.rows-is (mark_out _ _ _ _ _ g _ c.fits_at.ensures w.if-fits_at.false)
      ],
      search rules,
    )

pub returns-after-fits_at : goal.returns-after-fits_at
returns-after-fits_at c =
    let g = c.loop-j.invariant.0 in
    mark_end _ _ _ _ _ {j = c.loop-j.j + 1} {rows' = c.if-fits_at.rows}
    (elim c.if-fits_at.branch [
      | then-fits_at w ↦ rw w.rows-is (mark_in _ _ _ _ _ g _ c.fits_at.ensures w.if-fits_at.true (search rules) (search rules))
      | else-fits_at w ↦ rw w.rows-is (mark_out _ _ _ _ _ g _ c.fits_at.ensures w.if-fits_at.false)
    ])
    (search rules)
