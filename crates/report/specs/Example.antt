-- What the program prints for the small device Q, byte by byte, for the reader. Assumes nothing: these are definitions.
use Rattle.std.specs.Prelude.{[], ◌∷◌}
use Rattle.reversal.specs.Twelve.{run}
use Rattle.book.specs.Example.{bytes_q}
use Rattle.runs.specs.RunBytes.{run_bytes}
use Rattle.runs.specs.Example.{bytes_q5}
use Rattle.report.specs.Prints.{Prints}

pub record Examples : Type 0 where
  -- "For Q and Q5 its output is" 0 0 1 1 / 0
  pub q5 : Prints bytes_q bytes_q5 (48 ∷ 32 ∷ 48 ∷ 32 ∷ 49 ∷ 32 ∷ 49 ∷ 10 ∷ 48 ∷ 10 ∷ [])
  -- "Q8 1 1; 1 7 7: plan 0, items 3, 1": 0 0 1 2 / 0
  pub q8 : Prints bytes_q (run_bytes (run (1 ∷ 1 ∷ []) (1 ∷ 7 ∷ 7 ∷ []))) (48 ∷ 32 ∷ 48 ∷ 32 ∷ 49 ∷ 32 ∷ 50 ∷ 10 ∷ 48 ∷ 10 ∷ [])
  -- "Q9 1; 7 7: code 11": 11 0 0 0
  pub q9 : Prints bytes_q (run_bytes (run (1 ∷ []) (7 ∷ 7 ∷ []))) (49 ∷ 49 ∷ 32 ∷ 48 ∷ 32 ∷ 48 ∷ 32 ∷ 48 ∷ 10 ∷ [])
  -- "Q11 no commands; 7: empty plan": 0 0 0 0 / an empty line
  pub q11 : Prints bytes_q (run_bytes (run [] (7 ∷ []))) (48 ∷ 32 ∷ 48 ∷ 32 ∷ 48 ∷ 32 ∷ 48 ∷ 10 ∷ 10 ∷ [])
