-- Why an item is not accepted, and the codes for it (01's table of codes; 02, request 2), for the reader. Assumes nothing: these are definitions.
use Rattle.std.specs.Prelude.{ℕ}
use Rattle.reversal.specs.Device.{Device}
use Rattle.reversal.specs.Reversal.{Item, Reverses, NeverUsed}
use Rattle.book.specs.declared.fault.Fault.{Fault}
use Rattle.book.specs.declared.fault.Fault.TheVariants as faults
use Rattle.checker.specs.declared.Reason.{Reason}
use Rattle.checker.specs.declared.Reason.TheVariants.{NoReversePlan, NotEffective}

-- 01: "8, record's offset: item not accepted", by 01's rule; 02: "12, the item's offset, accepted by the old rule but not effective"
abbrev pub code_of : Reason → ℕ
code_of NoReversePlan = 8
code_of NotEffective = 12

-- the fault of a book with such an item
abbrev pub fault_of : Reason → Fault
fault_of NoReversePlan = faults.NoReversePlan
fault_of NotEffective = faults.NotEffective

-- this is why the item is not accepted
abbrev pub Due : Reason → Device → Item → Type 0
Due NoReversePlan d x = Reverses d x → ⊥
Due NotEffective d x = NeverUsed d x
