-- The writer's searches for the lowest wrong weight, entry and slot; proofs/ ties them to `LowestWrong`. Assumes nothing: these are definitions.
use Rattle.std.specs.Prelude.{Bool, not, List, ℕ, get_or, Option, Some, None, Result, Ok, Err}
use Rattle.base.specs.Tests.{pick}
use Rattle.base.specs.Compare.{less}
use Rattle.base.specs.Bounded.{seek}
use Rattle.base.specs.Masks.{clear_from}
use Rattle.book.specs.declared.fault.Fault.TheVariants.{OutOfRange}
use Rattle.book.specs.declared.fault.FaultAt.{FaultAt}
use Rattle.book.specs.Parse.{fault_at}
use Rattle.book.specs.Limits.{weight_fine}
use Rattle.book.specs.Slots.{slot_fine}

-- the weight of command c is out of range
abbrev pub weight_wrong : List ℕ → ℕ → Bool
weight_wrong w c = not (weight_fine (get_or w c 0))

-- the entry i has a bit at n or above
abbrev pub entry_wrong : ℕ → List ℕ → ℕ → Bool
entry_wrong n t i = not (clear_from n (get_or t i 0))

-- the slot i is not fine
abbrev pub slot_wrong : ℕ → ℕ → List ℕ → ℕ → Bool
slot_wrong n m s i = not (slot_fine n m s i)

-- the lowest of the first k weights that is wrong; k where none is
unfoldable pub lowest_weight : ℕ → List ℕ → ℕ
lowest_weight k w = seek (weight_wrong w) 0 k

-- the lowest of the first k entries that is wrong; k where none is
unfoldable pub lowest_entry : ℕ → ℕ → List ℕ → ℕ
lowest_entry n k t = seek (entry_wrong n t) 0 k

-- the lowest of the first c slots that is wrong; c where none is
unfoldable pub lowest_slot : ℕ → ℕ → ℕ → List ℕ → ℕ
lowest_slot n m c s = seek (slot_wrong n m s) 0 c

-- out of range at the lowest that is wrong, where that is one of the first k, else `rest`
abbrev pub unless_below : ℕ → ℕ → Result (Unit {0}) FaultAt → Result (Unit {0}) FaultAt
unless_below lowest k rest = pick (less lowest k) (Err (fault_at OutOfRange lowest)) rest

-- out of range at the place that was found, if there is one
abbrev pub found_wrong : Option ℕ → Result (Unit {0}) FaultAt
found_wrong (Some place) = Err (fault_at OutOfRange place)
found_wrong None = Ok tt
