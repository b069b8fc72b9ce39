-- The code of each fault (01's table; 02, "12 never used", "13 all weights 1", 14, 15). Assumes nothing: this is a definition.
use Rattle.std.specs.Prelude.{ℕ}
use Rattle.book.specs.declared.fault.Fault.{Fault}
use Rattle.book.specs.declared.fault.Fault.TheVariants.{ShortBuffer, CutOff, WrongKind, WrongLength, OutOfRange, NotRising, TooManyItems, NoReversePlan, WrongRun, NoHistory, NoChain, NotEffective, OnesOnly, NoItem, NoReverse}

-- 01: "Returned (code, place)"; each fault stands there, or in 02, in these words
abbrev pub code_of : Fault → ℕ
-- "a lent buffer shorter than stated"
code_of ShortBuffer = 1
-- "under 4 bytes of a record are left, or its body is cut off; an empty book too"
code_of CutOff = 2
-- "kind unknown in a book, or out of its order"
code_of WrongKind = 3
-- "body length not that of its kind"
code_of WrongLength = 4
-- "a field outside its range"
code_of OutOfRange = 5
-- "move doesn't rise"
code_of NotRising = 6
-- "a 65th item"
code_of TooManyItems = 7
-- "item not accepted"; by 02 no conditional reverse plan
code_of NoReversePlan = 8
-- "run isn't exactly one record as above, or a command or mask is outside m or n"
code_of WrongRun = 9
-- "no history"
code_of NoHistory = 10
-- "no chain from i"
code_of NoChain = 11
code_of NotEffective = 12
-- 02: "all weights 1"
code_of OnesOnly = 13
-- 02: "forward commands or masks that no item may hold"
code_of NoItem = 14
-- 02: "no such reverse"
code_of NoReverse = 15
