-- What may stand next, in the order of a book's records. Assumes nothing.
use mathlib.Core.Path.{◌≡◌, refl, sym, ap}
use mathlib.Core.Bool.{false, not, false≢true}
use Prim.Native.Nat.{ℕ, ◌≤◌}
use native.Mathlib.Omega.{arith}
use Rattle.book.specs.declared.kind.Kind.{Kind}
use Rattle.book.specs.declared.kind.Kind.TheVariants.{DeviceRecord, WeightsRecord, MoveRecord, ItemRecord}
use Rattle.book.specs.declared.phase.Phase.{Phase}
use Rattle.book.specs.declared.phase.Phase.TheVariants.{AtStart, AtWeights, AtMoves, AtItems}
use Rattle.book.specs.Parse.{allows}

-- how many kinds of records may stand next, past the device
abbrev pub left : Phase → ℕ
left AtStart = 0
left AtItems = 1
left AtMoves = 2
left AtWeights = 3

-- where a record of this kind may stand, by that number
abbrev pub Placed : Kind → Phase → Type 0
Placed DeviceRecord p = p ≡ AtStart
Placed WeightsRecord p = 3 ≤ left p
Placed MoveRecord p = 2 ≤ left p
Placed ItemRecord p = 1 ≤ left p

pub placed_by : (k : Kind) (p : Phase) → not (allows p k) ≡ false → Placed k p
placed_by DeviceRecord AtStart e = refl
placed_by DeviceRecord AtWeights e = absurd (false≢true (sym e))
placed_by DeviceRecord AtMoves e = absurd (false≢true (sym e))
placed_by DeviceRecord AtItems e = absurd (false≢true (sym e))
placed_by WeightsRecord AtStart e = absurd (false≢true (sym e))
placed_by WeightsRecord AtWeights e = omega arith
placed_by WeightsRecord AtMoves e = absurd (false≢true (sym e))
placed_by WeightsRecord AtItems e = absurd (false≢true (sym e))
placed_by MoveRecord AtStart e = absurd (false≢true (sym e))
placed_by MoveRecord AtWeights e = omega arith
placed_by MoveRecord AtMoves e = omega arith
placed_by MoveRecord AtItems e = absurd (false≢true (sym e))
placed_by ItemRecord AtStart e = absurd (false≢true (sym e))
placed_by ItemRecord AtWeights e = omega arith
placed_by ItemRecord AtMoves e = omega arith
placed_by ItemRecord AtItems e = omega arith

pub allowed_by : (k : Kind) (p : Phase) → Placed k p → not (allows p k) ≡ false
allowed_by DeviceRecord p h = rw h
allowed_by WeightsRecord AtStart h = absurd (omega arith)
allowed_by WeightsRecord AtWeights h = refl
allowed_by WeightsRecord AtMoves h = absurd (omega arith)
allowed_by WeightsRecord AtItems h = absurd (omega arith)
allowed_by MoveRecord AtStart h = absurd (omega arith)
allowed_by MoveRecord AtWeights h = refl
allowed_by MoveRecord AtMoves h = refl
allowed_by MoveRecord AtItems h = absurd (omega arith)
allowed_by ItemRecord AtStart h = absurd (omega arith)
allowed_by ItemRecord AtWeights h = refl
allowed_by ItemRecord AtMoves h = refl
allowed_by ItemRecord AtItems h = refl

-- the numbers tell them apart
pub apart : {p q : Phase} → p ≡ q → left p ≡ left q
apart e = ap left e
