-- An element that is looked for in a row. Assumes nothing.
use mathlib.Core.Path.{◌≡◌}
use mathlib.Core.List.{List, [], ◌∷◌}
use Prim.Native.Nat.{ℕ, zero, suc}
use lib.ListN.{get_or}
use Rattle.std.specs.Prelude.{MatchOption, slice_get}

-- where there is none, 0
pub found_or_zero : (xs : List ℕ) (i r : ℕ) → MatchOption (slice_get xs i) (r ≡ 0) (λ x. r ≡ x) → r ≡ get_or xs i 0
found_or_zero [] i r h = h
found_or_zero (x ∷ xs) zero r h = h
found_or_zero (x ∷ xs) (suc i) r h = found_or_zero xs i r h
