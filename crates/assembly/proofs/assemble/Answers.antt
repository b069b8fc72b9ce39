use Rattle.std.proofs.Common.{refl, ◌<◌}
use native.Mathlib.Omega.{arith}
use Rattle.base.proofs.Lists.{each_of}
use Rattle.checker.proofs.Faults.{some_code}
use Rattle.assembly.proofs.WaysOfAssemble.{lent-refused}
use Rattle.assembly.proofs.Lends.{table_lends}
use Rattle.assembly.proofs.assemble.Goals as goal

pub planned-requires : goal.planned-requires
planned-requires c = table_lends c.in-Ok.ensures refl

pub returns-in-Err : goal.returns-in-Err
returns-in-Err c =
    lent-refused c.in-Err.ensures (c.if-plan-lt-PLAN_LEN.false, (c.if-legs-lt-LEGS_LEN.false, tt))
    (each_of (λ x. x < 256) c.args.run.now 0 (λ i h. omega (arith, c.type_inv.run i))) (some_code c.in-Err.rejected.at.fault) c.into-in-Err.ensures
