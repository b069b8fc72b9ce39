-- What can be said of a program that reads files: no contract says which bytes a file holds, so these say "for some bytes of a book and a run".
-- Assumes nothing: these are definitions.
use Rattle.std.specs.Prelude.{◌≡◌, List, ℕ, length}
use Rattle.report.specs.Contract.{text_of, ReportAs}

-- `out'` and r are what `report` leaves and answers for some book and some run
pub record ReportOfSome (out : List ℕ) (r : ℕ) (out' : List ℕ) : Type 0 where
  pub book : List ℕ
  pub run : List ℕ
  pub reported : ReportAs book run out r out'

-- r is the length of what is printed for some book and some run
pub record SizeOfSome (r : ℕ) : Type 0 where
  pub book : List ℕ
  pub run : List ℕ
  pub size : r ≡ length (text_of book run)
