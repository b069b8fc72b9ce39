-- A text in a lent row. Assumes nothing: these are definitions.
use Rattle.std.specs.Prelude.{◌≡◌, List, ℕ, ◌+◌, length}
use Rattle.std.proofs.lemmas.List.Edits.{sets}

-- the row `old` with the text from `at` on is `new`, and `next` is the place after the text
pub record Written (old : List ℕ) (at : ℕ) (text new : List ℕ) (next : ℕ) : Type 0 where
  pub row : new ≡ sets old at text
  pub end : next ≡ at + length text
