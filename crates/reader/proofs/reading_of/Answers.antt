use native.Mathlib.Omega.{arith}
use Prim.Native.Nat.{◌<◌}
use Rattle.base.proofs.Lists.{each_of}
use Rattle.reader.proofs.Ways.{reading_judged}
use Rattle.reader.proofs.reading_of.Goals as goal

pub returns : goal.returns
returns c =
    reading_judged c.judge.result (each_of (λ x. x < 256) c.args.book.now 0 (λ i h. omega (arith, c.type_inv.book i))) c.judge.ensures.value c.into.ensures
