use mathlib.Core.Path.{refl}
use native.Mathlib.Omega.{arith}
use Rattle.book.proofs.CutAt.{cut-end, cut-few, cut_short}
use Rattle.reader.proofs.Turns.{standing}
use Rattle.reader.proofs.scan.head_at.Goals as goal

pub returns-then-n-at : goal.returns-then-n-at
returns-then-n-at c = cut-end c.args.s.now c.args.at c.if-n-at.true

pub returns-then-n-at-lt4 : goal.returns-then-n-at-lt4
returns-then-n-at-lt4 c = (cut-few c.args.s.now c.args.at c.if-n-at.false c.if-n-at-lt4.true, refl)

pub returns-then-n-at-2 : goal.returns-then-n-at-2
returns-then-n-at-2 c = (cut_short c.args.s.now c.args.at c.if-n-at-lt4.false (omega (arith, c.u16_at-len.ensures.value)), refl)

pub returns : goal.returns
returns c =
    standing c.args.s.now c.args.at _ _ c.if-n-at-lt4.false c.u16_at-len.ensures.value c.u16_at-kind.ensures.value c.if-n-at-2.false
