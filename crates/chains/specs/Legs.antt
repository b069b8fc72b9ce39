-- Legs as bytes (01, "Chains and plans"), for the reader. Assumes nothing: these are definitions.
use Rattle.std.specs.Prelude.{List, [], ◌∷◌, ℕ}
use Rattle.reversal.specs.Chains.{Leg}

-- "Each leg is an item number, its upper point and its lower point", a byte each
unfoldable pub legs_bytes : List Leg → List ℕ
legs_bytes [] = []
legs_bytes (l ∷ ls) = l.number ∷ l.upper ∷ l.lower ∷ legs_bytes ls
