-- No fault has the code 0. Assumes nothing.
use native.Mathlib.Omega.{arith}
use Rattle.std.specs.Prelude.{◌≡◌}
use Rattle.book.specs.Faults.{code_of}
use Rattle.book.specs.declared.fault.Fault.{Fault}
use Rattle.book.specs.declared.fault.Fault.TheVariants.{ShortBuffer, CutOff, WrongKind, WrongLength, OutOfRange, NotRising, TooManyItems, NoReversePlan, WrongRun, NoHistory, NoChain, NotEffective, OnesOnly, NoItem, NoReverse}

pub some_code : (fault : Fault) → code_of fault ≡ 0 → ⊥
some_code ShortBuffer e = absurd (omega (arith, e))
some_code CutOff e = absurd (omega (arith, e))
some_code WrongKind e = absurd (omega (arith, e))
some_code WrongLength e = absurd (omega (arith, e))
some_code OutOfRange e = absurd (omega (arith, e))
some_code NotRising e = absurd (omega (arith, e))
some_code TooManyItems e = absurd (omega (arith, e))
some_code NoReversePlan e = absurd (omega (arith, e))
some_code WrongRun e = absurd (omega (arith, e))
some_code NoHistory e = absurd (omega (arith, e))
some_code NoChain e = absurd (omega (arith, e))
some_code NotEffective e = absurd (omega (arith, e))
some_code OnesOnly e = absurd (omega (arith, e))
some_code NoItem e = absurd (omega (arith, e))
some_code NoReverse e = absurd (omega (arith, e))
