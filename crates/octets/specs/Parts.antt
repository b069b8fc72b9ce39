-- The numbers and rows that stand in some bytes, as the code takes them out. Assumes nothing: these are definitions.
use Rattle.std.specs.Prelude.{List, [], ◌∷◌, ℕ, zero, suc, ◌+◌, ◌*◌, leb, length, take, drop, get_or}
use Rattle.base.specs.Tests.{pick}

-- the number that a row of bytes is, lowest byte first
abbrev pub le : List ℕ → ℕ
le [] = 0
le (b ∷ bs) = b + 256 * le bs

-- the number in the n bytes of s from `at` on, as far as there are any
abbrev pub le_at : ℕ → List ℕ → ℕ → ℕ
le_at n s at = le (take n (drop at s))

-- the number in the 8 bytes of s from `at` on, 0 where they are not all there
unfoldable pub whole_at : List ℕ → ℕ → ℕ
whole_at s at = pick (leb (at + 8) (length s)) (le_at 8 s at) 0

-- the n bytes of s from p on, 0 past its end
unfoldable pub piece : ℕ → List ℕ → ℕ → List ℕ
piece zero s p = []
piece (suc n) s p = get_or s p 0 ∷ piece n s (suc p)
