-- `paper::put_lines` meets its contract: one line more, and all of them. Assumes nothing.
use Rattle.std.proofs.Common.{rules, arith, refl, ◌≡◌}
use Rattle.assembly.specs.LegsRead.{legs_read}
use Rattle.show.proofs.Texts.{unchanged, added, same_part, whole}
use Rattle.paper.specs.Contract.{reverse_in}
use Rattle.paper.specs.Layout.{lines_from}
use Rattle.paper.proofs.Puts.{lines_more}
use Rattle.paper.proofs.put_lines.Goals as goal

pub loop-i-init : goal.loop-i-init
unfolding lines_from legs_read
loop-i-init c = (unchanged _, omega arith)

pub loop-i-preserved : goal.loop-i-preserved
loop-i-preserved c = (
  same_part (lines_more (reverse_in c.args.slots.now) c.args.legs.now c.loop-i.i) (added c.loop-i.invariant.0 c.put_line.ensures.adds),
  omega arith,
)

pub returns : goal.returns
returns c =
    let e : c.loop-i.i ≡ c.args.count = omega arith in
    whole (rw e at c.loop-i.invariant.0) refl refl (search rules)
