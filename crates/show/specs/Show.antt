-- Numbers as text, and the text that the program `rollback` prints (01, "Small device Q"), as ASCII codes, for the reader. Assumes nothing: these are definitions.
use Rattle.std.specs.Prelude.{List, [], ◌∷◌, ◌++◌, ℕ, zero, suc, ◌+◌, ◌-◌, ◌/◌, ◌%◌, length, take, replicate}
use Rattle.base.specs.Tests.{pick}
use Rattle.base.specs.Compare.{less, same}

abbrev pub newline : ℕ
newline = 10

abbrev pub space : ℕ
space = 32

-- the digit d, below 10
abbrev pub digit : ℕ → ℕ
digit d = 48 + d

-- n in decimal, in at most f digits: those of its tenth, and then its last one
unfoldable pub decimal_in : ℕ → ℕ → List ℕ
decimal_in zero n = []
decimal_in (suc f) n = pick (less n 10) (digit n ∷ []) (decimal_in f (n / 10) ++ (digit (n % 10) ∷ []))

-- a number of 64 bits has at most 20 digits
unfoldable pub decimal : ℕ → List ℕ
decimal n = decimal_in 20 n

-- 02: "Right-aligned, padded with spaces": n in decimal at the end of w characters, or of more where it has more digits
unfoldable pub right_aligned : ℕ → ℕ → List ℕ
right_aligned w n = replicate (w - length (decimal n)) space ++ decimal n

-- a number and the byte after it
abbrev pub field : ℕ → ℕ → List ℕ
field n after = decimal n ++ (after ∷ [])

-- numbers, "one space between; an empty line for none"
unfoldable pub line : List ℕ → List ℕ
line [] = newline ∷ []
line (x ∷ []) = field x newline
line (x ∷ y ∷ xs) = field x space ++ line (y ∷ xs)

-- "Line 1: code, place, command count, leg count. Line 2, only for code 0: the commands"
unfoldable pub lines_of : ℕ → ℕ → ℕ → ℕ → List ℕ → List ℕ
lines_of code place commands legs plan = line (code ∷ place ∷ commands ∷ legs ∷ []) ++ pick (same code 0) (line plan) []

-- the commands in "a plan buffer (256 bytes)": the first of its bytes, as far as there are any
abbrev pub planned : ℕ → List ℕ → List ℕ
planned commands plan = take commands (take 256 plan)
