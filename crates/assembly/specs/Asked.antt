-- What assembling is asked, for the reader: the bytes of a book and of a run. Assumes nothing: these are definitions.
use Rattle.std.specs.Prelude.{List, ℕ}

pub record Asked : Type 0 where
  pub book : List ℕ
  pub run : List ℕ

abbrev pub asked : List ℕ → List ℕ → Asked
asked book run = record { book = book; run = run }
