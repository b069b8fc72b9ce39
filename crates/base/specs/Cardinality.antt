-- The states of a set, counted (02, requests 4 and 6), for the reader. proofs/Present: `present` is the row of specs/Present, which leaves one only.
-- Assumes nothing: these are definitions.
use Rattle.std.specs.Prelude.{Bool, List, [], ◌∷◌, ◌++◌, ℕ, zero, suc, ◌/◌, ◌%◌, ◌^◌, eqb, length}
use Rattle.base.specs.Tests.{pick}

-- state s is in the set w: the test of `In`
unfoldable pub member : ℕ → ℕ → Bool
member w s = eqb (w / 2 ^ s % 2) 1

-- of n states those that are in w, in ascending order (specs/Present), and their number
unfoldable pub present : ℕ → ℕ → List ℕ
present zero w = []
present (suc n) w = present n w ++ pick (member w n) (n ∷ []) []

abbrev pub cardinality : ℕ → ℕ → ℕ
cardinality n w = length (present n w)
