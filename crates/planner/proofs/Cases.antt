-- Q5, Q6 and Q8 with leg structs, by the joint table; the limits with 32 and 31 structs. Assumes nothing.
use mathlib.Core.Path.{refl}
use Rattle.assembly.specs.Cases.{Runs}
use Rattle.assembly.proofs.Cases.{runs}
use Rattle.assembly.specs.Edges.{Edges}
use Rattle.assembly.proofs.Edges.{edges}
use Rattle.planner.specs.Structs.{in_structs}
use Rattle.planner.specs.Cases.{StructRuns}

all : Runs in_structs
all = runs in_structs

pub struct_runs : StructRuns
struct_runs =
    record {
      q5 = record { written = λ x long. (all.q5.left x long).legs_written };
      q6 = record { written = λ x long. (all.q6.left x long).legs_written };
      q8 = record { written = λ x long. (all.q8.left x long).legs_written };
    }

-- and at both sides of its lengths, each of its codes, with 32 structs for the legs
pub struct_edges : Edges in_structs 32 31
struct_edges = edges in_structs refl refl
