-- What the program prints, and numbers in so many characters, byte by byte, for the reader. Assumes nothing: these are definitions.
use Rattle.std.specs.Prelude.{◌≡◌, [], ◌∷◌}
use Rattle.show.specs.Show.{right_aligned, lines_of}

pub record Examples : Type 0 where
  -- "For Q and Q5 its output is" 0 0 1 1 / 0
  pub q5 : lines_of 0 0 1 1 (0 ∷ []) ≡ 48 ∷ 32 ∷ 48 ∷ 32 ∷ 49 ∷ 32 ∷ 49 ∷ 10 ∷ 48 ∷ 10 ∷ []
  -- 0 0 0 0 / "an empty line for none"
  pub none : lines_of 0 0 0 0 [] ≡ 48 ∷ 32 ∷ 48 ∷ 32 ∷ 48 ∷ 32 ∷ 48 ∷ 10 ∷ 10 ∷ []
  -- 0 0 2 1 / 31 0
  pub two : lines_of 0 0 2 1 (31 ∷ 0 ∷ []) ≡ 48 ∷ 32 ∷ 48 ∷ 32 ∷ 50 ∷ 32 ∷ 49 ∷ 10 ∷ 51 ∷ 49 ∷ 32 ∷ 48 ∷ 10 ∷ []
  -- 7 in four characters, 31 in three, 123 in two
  pub right : right_aligned 4 7 ≡ 32 ∷ 32 ∷ 32 ∷ 55 ∷ []
  pub right_two : right_aligned 3 31 ≡ 32 ∷ 51 ∷ 49 ∷ []
  pub right_over : right_aligned 2 123 ≡ 49 ∷ 50 ∷ 51 ∷ []
  -- 11 0 0 0, and "Line 2, only for code 0"
  pub refused : lines_of 11 0 0 0 [] ≡ 49 ∷ 49 ∷ 32 ∷ 48 ∷ 32 ∷ 48 ∷ 32 ∷ 48 ∷ 10 ∷ []
