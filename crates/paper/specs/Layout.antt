-- A plan on paper: the layout of its legs (02, request 3), as ASCII codes, for the reader. Assumes nothing: these are definitions.
use Rattle.std.specs.Prelude.{List, [], ◌∷◌, ◌++◌, ℕ, ◌+◌, length, replicate}
use Rattle.reversal.specs.Reversal.{Item}
use Rattle.reversal.specs.Chains.{Leg, item}
use Rattle.show.specs.Show.{newline, space, right_aligned}

-- "leg number from 1 (3 wide), upper point (3), lower point (3), item number (4), number of reverse commands (3), then up to 8 commands (3 each)"
abbrev pub widths : List ℕ
widths = 3 ∷ 3 ∷ 3 ∷ 4 ∷ 3 ∷ replicate 8 3

-- numbers in columns of such widths, each "right-aligned", the columns "blank where there are fewer"
unfoldable pub columns : List ℕ → List ℕ → List (List ℕ)
columns [] ns = []
columns (w ∷ ws) [] = replicate w space ∷ columns ws []
columns (w ∷ ws) (n ∷ ns) = right_aligned w n ∷ columns ws ns

-- texts one after the other
unfoldable pub joined : List (List ℕ) → List ℕ
joined [] = []
joined (text ∷ texts) = text ++ joined texts

-- "one line per leg, 40 characters and a newline": that of the leg with this number and these reverse commands
unfoldable pub line_of : ℕ → Leg → List ℕ → List ℕ
line_of number leg commands =
    joined (columns widths (number ∷ leg.upper ∷ leg.lower ∷ leg.number ∷ length commands ∷ commands)) ++ (newline ∷ [])

-- line by line, for legs of which the first has this number; an item's number gives its reverse commands
unfoldable pub lines_from : (ℕ → List ℕ) → ℕ → List Leg → List ℕ
lines_from reverse number [] = []
lines_from reverse number (l ∷ ls) = line_of number l (reverse l.number) ++ lines_from reverse (number + 1) ls

abbrev pub reverse_of : List Item → ℕ → List ℕ
reverse_of items a = (item items a).reverse

-- the page of legs of a book's items
abbrev pub page_of : List Item → List Leg → List ℕ
page_of items ls = lines_from (reverse_of items) 1 ls
