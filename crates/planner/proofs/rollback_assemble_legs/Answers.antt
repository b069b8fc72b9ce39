-- `rollback_assemble_legs` meets its contract. Assumes nothing.
use Rattle.std.proofs.Common.{arith, ◌≤◌}
use Rattle.assembly.proofs.Exactly.{legs-few}
use Rattle.planner.proofs.Structs.{legs_told}
use Rattle.planner.proofs.rollback_assemble_legs.Goals as goal

pub fill_legs-requires : goal.fill_legs-requires
fill_legs-requires c =
    let few : c.assemble-result.result.legs ≤ 32 = legs-few c.assemble-result.ensures in
    (omega arith, omega arith)

pub returns : goal.returns
returns c =
    legs_told _ _ c.assemble-result.ensures.bytes (λ few. absurd (omega arith)) (λ enough. c.assemble-result.ensures) c.fill_legs.ensures
