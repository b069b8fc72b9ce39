-- What the functions of the search say of the types that they take. Assumes nothing: these are definitions.
use Rattle.std.specs.Prelude.{List, ℕ, Option, Some, None, Result, Ok, Err}
use Rattle.octets.specs.Le.{bytes_le}
use Rattle.reversal.specs.Device.{Device, tabled}
use Rattle.finder.specs.declared.Found.{Found}
use Rattle.finder.specs.declared.InLimits.{InLimits}
use Rattle.finder.specs.declared.Row.{Row}
use Rattle.book.specs.declared.fault.FaultAt.{FaultAt}
use Rattle.book.specs.Faults.{code_of}
use Rattle.finder.specs.Finds.{refusal}
use Rattle.finder.specs.Contract.{answer}

-- the device that is lent
abbrev pub lent : InLimits → Device
lent it = tabled it.device.n it.device.m it.device.table.now

-- the commands of a row
abbrev pub commands_of : Row → List ℕ
commands_of row = bytes_le row.count row.number

-- the answer with the row that was found, or that there is none
abbrev pub found_with : Option Row → Found
found_with (Some row) = answer row.count row.number
found_with None = refusal 15 0

-- the answer with the row, or the code of the fault and its place
abbrev pub found_by : Result Row FaultAt → Found
found_by (Ok row) = answer row.count row.number
found_by (Err at) = refusal (code_of at.fault) at.place
