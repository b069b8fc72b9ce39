-- `show::put_right` meets its contract: spaces, and the digits that `io::decimal` made, copied behind them. Assumes nothing.
use Rattle.std.proofs.Common.{rules, ap, not, le_of_lt}
use Rattle.octets.proofs.Put.{no_room}
use Rattle.show.specs.Show.{right_aligned}
use Rattle.show.proofs.Texts.{right-long, right_put, right-past}
use Rattle.show.proofs.put_right.Goals as goal
use Rattle.show.proofs.put_right.Goals.{then-has_room, else-has_room}

pub returns-clause-out_after : goal.returns-clause-out_after
unfolding right_aligned
returns-clause-out_after c =
    let d = c.decimal-k in
    elim c.if-has_room.branch [
      | then-has_room w ↦ rw w.out-is (right_put d.new.out d.result c.args.n d.ensures.in_bounds d.ensures.len d.ensures.digits (search rules) c.args.width _
          c.saturating_sub-pad.ensures _ _ _ c.fill.ensures _ w.copy.ensures)
      | else-has_room w ↦ rw w.out-is (right-past d.new.out d.result c.args.n d.ensures.in_bounds d.ensures.len d.ensures.digits (search rules) c.args.width _
          c.saturating_sub-pad.ensures _ _ _ c.fill.ensures (le_of_lt (no_room _ _ _ _ c.has_room.ensures (ap not w.if-has_room.false))))
    ]

pub returns-clause-value : goal.returns-clause-value
returns-clause-value c =
    let d = c.decimal-k in
    right-long d.new.out d.result c.args.n d.ensures.in_bounds d.ensures.len d.ensures.digits (search rules) c.args.width _ c.saturating_sub-pad.ensures
