use Rattle.std.proofs.Common.{refl, ◌<◌}
use native.Mathlib.Omega.{arith}
use Rattle.base.proofs.Lists.{each_of}
use Rattle.checker.proofs.Faults.{some_code}
use Rattle.assembly.proofs.WaysOfAssemble.{not-accepted}
use Rattle.assembly.proofs.Lends.{small_lends}
use Rattle.assembly.proofs.Small.{small-long}
use Rattle.assembly.proofs.assemble_small.Goals as goal

pub planned-requires : goal.planned-requires
planned-requires c = small_lends c.in-Ok.ensures c.if-scratch-lt-SCRATCH_LEN.false refl c.fill_weights.ensures

pub returns-in-Err : goal.returns-in-Err
returns-in-Err c =
    let enough = c.if-scratch-lt-SCRATCH_LEN.false in
    small-long (c.if-plan-lt-PLAN_LEN.false, (c.if-legs-lt-LEGS_LEN.false, (enough, tt))) c.in-Err.ensures.rest
    (not-accepted (c.in-Err.ensures.checking enough) (each_of (λ x. x < 256) c.args.run.now 0 (λ i h. omega (arith, c.type_inv.run i)))
    (some_code c.in-Err.rejected.at.fault) c.into-in-Err.ensures)
