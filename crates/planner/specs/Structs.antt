-- The lent legs as structs (01: "then a thin function that writes 32 lent leg structs"), for the reader. Assumes nothing: these are definitions.
use Rattle.std.specs.Prelude.{map}
use Rattle.reversal.specs.Chains as chains
use Rattle.assembly.specs.Lent.{LegForm}
use Rattle.planner.specs.declared.Leg.{Leg}

-- "Each leg is an item number, its upper point and its lower point"
abbrev pub struct_of : chains.Leg → Leg
struct_of l = record { item = l.number; upper = l.upper; lower = l.lower }

-- one struct for a leg; what assembling promises of them is `AssembleAs in_structs`, `Assembles in_structs` and `Demand in_structs`
abbrev pub in_structs : LegForm Leg
in_structs = record { width = 1; held = map struct_of }
