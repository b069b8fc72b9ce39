-- `write_chain`: where the chain can be walked, what is left to write gives the whole (`Going`), and each turn goes down. Assumes nothing.
use Rattle.points.specs.Items.{recorded}
use Rattle.chains.proofs.ChainWritten.{Going}
use Rattle.chains.proofs.write_chain.Given as goal

abbrev pub invariant-loop-j : goal.invariant-loop-j
invariant-loop-j l =
    Going (recorded l.fn.book l.fn.places) l.fn.items l.fn.i l.fn.plan l.fn.legs l.plan l.legs l.j l.counts.commands l.counts.legs

abbrev pub decreases-loop-j : goal.decreases-loop-j
decreases-loop-j l = l.j
