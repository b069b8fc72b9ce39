-- The buffers lent to assembling, how they hold legs, and the lengths stated for them (01, "Chains and plans"), for the reader.
-- Assumes nothing: these are definitions.
use Rattle.std.specs.Prelude.{List, [], ◌∷◌, ◌++◌, ℕ, ◌*◌, length}
use Rattle.base.specs.Sizes.{Sized, ◌for◌}
use Rattle.reversal.specs.Chains.{Leg}
use Rattle.book.specs.Lent.{Lent, sizes}
unfoldable pub use Rattle.chains.specs.Legs.{legs_bytes}

-- How the lent legs hold a leg: the elements for one, and those of a list of legs.
pub record LegForm (E : Type 0) : Type 0 where
  pub width : ℕ
  pub held : List Leg → List E

-- as plain bytes; the structs of the exported call stand in planner/specs/Structs
abbrev pub in_bytes : LegForm ℕ
in_bytes = record { width = 3; held = legs_bytes }

-- the buffers that assembling writes
pub record Room (E : Type 0) : Type 0 where
  pub plan : List ℕ
  pub legs : List E

abbrev pub lent_room : {E : Type 0} → List ℕ → List E → Room E
lent_room plan legs = record { plan = plan; legs = legs }

-- all that are lent: those that reading fills, and those that assembling writes
pub record AllLent (E : Type 0) : Type 0 where
  pub read : Lent
  pub room : Room E

abbrev pub all_lent : {E : Type 0} → Lent → List ℕ → List E → AllLent E
all_lent read plan legs = record { read = read; room = lent_room plan legs }

-- "a plan buffer (256 bytes) and 32 legs": the lengths stated for them
abbrev pub room_sizes : {E : Type 0} → LegForm E → Room E → List Sized
room_sizes form room = (length room.plan for 256) ∷ (length room.legs for 32 * form.width) ∷ []

abbrev pub all_sizes : {E : Type 0} → LegForm E → AllLent E → List Sized
all_sizes form l = room_sizes form l.room ++ sizes l.read
