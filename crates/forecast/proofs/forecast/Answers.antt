use Prim.Native.Nat.{◌<◌}
use native.Mathlib.Omega.{arith}
use Rattle.base.proofs.Lists.{each_of}
use Rattle.forecast.proofs.Ways.{as_faulty, as_long, as_fine}
use Rattle.forecast.proofs.forecast.Goals as goal

pub returns-in-Err : goal.returns-in-Err
returns-in-Err c =
    as_faulty _ _ (each_of (λ x. x < 256) c.args.book.now 0 (λ i h. omega (arith, c.type_inv.book i))) c.in-Err.fault c.in-Err.ensures.judged _ c.into.ensures

pub returns-then-i-gt32 : goal.returns-then-i-gt32
returns-then-i-gt32 c =
    as_long _ _ (each_of (λ x. x < 256) c.args.book.now 0 (λ i h. omega (arith, c.type_inv.book i))) c.in-Ok.sums c.in-Ok.ensures.judged c.if-i-gt32.true _
    (rw c.at.ensures at c.into-then-i-gt32.ensures)

pub returns : goal.returns
returns c =
    as_fine _ _ (each_of (λ x. x < 256) c.args.book.now 0 (λ i h. omega (arith, c.type_inv.book i))) c.in-Ok.sums c.in-Ok.ensures.judged c.in-Ok.ensures.sums
    c.if-i-gt32.false
