-- A page's text taken apart: its lines, their fields at fixed columns, and the numbers in them (02, request 3: "The commands, taken down the page, are
-- the plan."), for the reader. Of the layout it knows the widths and which column holds what. Assumes nothing: these are definitions.
use Rattle.std.specs.Prelude.{Bool, true, List, [], ◌∷◌, ◌++◌, map, ℕ, ◌+◌, ◌-◌, ◌*◌, take, drop, get_or}
use Rattle.base.specs.Tests.{pick, both}
use Rattle.base.specs.Compare.{at_most, same}
use Rattle.show.specs.Show.{newline, space, digit}
use Rattle.paper.specs.Layout.{widths, joined}

-- a character before the first of these lines; what stands after the last newline is no line
abbrev pub begun : ℕ → List (List ℕ) → List (List ℕ)
begun c [] = []
begun c (l ∷ ls) = (c ∷ l) ∷ ls

-- the lines of a text: what stands before each newline
unfoldable pub lines_in : List ℕ → List (List ℕ)
lines_in [] = []
lines_in (c ∷ cs) = pick (same c newline) ([] ∷ lines_in cs) (begun c (lines_in cs))

-- the fields of a line, by their widths
unfoldable pub fields_in : List ℕ → List ℕ → List (List ℕ)
fields_in [] s = []
fields_in (w ∷ ws) s = take w s ∷ fields_in ws (drop w s)

-- a field without the spaces before what stands in it
unfoldable pub unpadded : List ℕ → List ℕ
unpadded [] = []
unpadded (c ∷ cs) = pick (same c space) (unpadded cs) (c ∷ cs)

unfoldable pub all_digits : List ℕ → Bool
all_digits [] = true
all_digits (c ∷ cs) = both (both (at_most (digit 0) c) (at_most c (digit 9))) (all_digits cs)

-- the number that digits write, after those that write v
unfoldable pub value_from : ℕ → List ℕ → ℕ
value_from v [] = v
value_from v (c ∷ cs) = value_from (10 * v + (c - digit 0)) cs

-- the number that a text is, as a list: none where it is empty, or not all of it is digits
abbrev pub value_of : List ℕ → List ℕ
value_of [] = []
value_of (c ∷ cs) = pick (all_digits (c ∷ cs)) (value_from 0 (c ∷ cs) ∷ []) []

abbrev pub number_in : List ℕ → List ℕ
number_in field = value_of (unpadded field)

-- what stands on a line: its fields are numbered from 0, and the commands are in those from 5 on
abbrev pub on_line : ℕ → List ℕ → List ℕ
on_line i line = number_in (get_or (fields_in widths line) i [])

abbrev pub leg_on : List ℕ → List ℕ
leg_on line = on_line 3 line ++ (on_line 1 line ++ on_line 2 line)

abbrev pub commands_on : List ℕ → List ℕ
commands_on line = joined (map number_in (drop 5 (fields_in widths line)))

-- taken down the page, line by line
abbrev pub down : (List ℕ → List ℕ) → List (List ℕ) → List ℕ
down taken lines = joined (map taken lines)
