-- `paper::lay_out` meets its contract: the legs counted are at most 32, and their lines are the page. Assumes nothing.
use Rattle.assembly.proofs.Exactly.{legs-few}
use Rattle.paper.proofs.Ways.{page_long}
use Rattle.paper.proofs.lay_out.Goals as goal

pub put_lines-length-requires : goal.put_lines-length-requires
put_lines-length-requires c = legs-few c.assemble-assembly.ensures

pub returns : goal.returns
returns c = page_long c.if-page-lt-PAGE_LEN.false c.assemble-assembly.ensures c.put_lines-length.ensures
