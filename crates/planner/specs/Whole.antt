-- The structs made of the bytes that assembling writes. Assumes nothing: these are definitions.
use Rattle.std.specs.Prelude.{List, map, ℕ, replicate}
use Rattle.assembly.specs.LegsRead.{leg_read, legs_read}
use Rattle.planner.specs.declared.Leg.{Leg}
use Rattle.planner.specs.Structs.{struct_of}

-- the struct of the three bytes from 3 × i on
abbrev pub leg_at : List ℕ → ℕ → Leg
leg_at s i = struct_of (leg_read s i)

-- k structs, from number i on
abbrev pub structs_in : List ℕ → ℕ → ℕ → List Leg
structs_in s k i = map struct_of (legs_read s k i)

-- the bytes that are lent to assembling
abbrev pub zeros : List ℕ
zeros = replicate 96 0
