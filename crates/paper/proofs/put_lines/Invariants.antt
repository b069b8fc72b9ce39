-- `paper::put_lines`: the lines of the first legs stand on the page. Assumes nothing.
use Rattle.std.proofs.Common.{◌*◌, ◌≤◌}
use Rattle.show.specs.Adds.{Adds}
use Rattle.paper.specs.Contract.{page_in}
use Rattle.paper.proofs.put_lines.Given as goal

abbrev pub invariant-loop-i : goal.invariant-loop-i
invariant-loop-i l = Adds l.initial.text (page_in l.slots l.legs l.i) l.text × (l.text.end ≤ 301 * l.i)
