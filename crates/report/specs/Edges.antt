-- What the program prints at both sides of its limits, for each code, byte by byte, for the reader. Assumes nothing: these are definitions.
use Rattle.std.specs.Prelude.{List, [], ◌∷◌, ◌++◌, ℕ, zero, suc, take, replicate}
use Rattle.reversal.specs.Twelve.{item_q3, item_q4, run}
use Rattle.reversal.specs.Longest.{run_long}
use Rattle.book.specs.Book.{bytes_of}
use Rattle.book.specs.Example.{move, bytes_q, many, with_move, after_device}
use Rattle.book.specs.Further.{bytes_p, bytes_long}
use Rattle.checker.specs.Cases.{recorded}
use Rattle.runs.specs.RunBytes.{run_bytes}
use Rattle.report.specs.Prints.{Prints}

-- one record of an unknown kind, whose length is said to be low + 256 × high, with a body of so many zeros
abbrev pub unknown : ℕ → ℕ → ℕ → List ℕ
unknown low high zeros = low ∷ high ∷ 9 ∷ 0 ∷ replicate zeros 0

-- k times " 1"
abbrev pub ones : ℕ → List ℕ
ones zero = []
ones (suc k) = 32 ∷ 49 ∷ ones k

pub record Edges : Type 0 where
  -- "judges at most the first 31,111 bytes of book.bin", with 02 31,179: a record that ends with byte 31,179 is there whole, and of a kind that is
  -- unknown: 3 0 0 0; one that ends with byte 31,180 is cut off: 2 0 0 0
  pub byte_31179 : Prints (unknown 199 121 31175) [] (51 ∷ 32 ∷ 48 ∷ 32 ∷ 48 ∷ 32 ∷ 48 ∷ 10 ∷ [])
  pub byte_31180 : Prints (unknown 200 121 31176) [] (50 ∷ 32 ∷ 48 ∷ 32 ∷ 48 ∷ 32 ∷ 48 ∷ 10 ∷ [])
  -- "and 302 of run.bin": a run of 32 commands has 301 bytes and is judged whole, 0 0 256 32 and 256 times 1; with a byte behind it, it is none, 9 0 0 0
  pub run_of_301 : Prints bytes_long (run_bytes run_long)
      (48 ∷ 32 ∷ 48 ∷ 32 ∷ 50 ∷ 53 ∷ 54 ∷ 32 ∷ 51 ∷ 50 ∷ 10 ∷ 49 ∷ ones 255 ++ 10 ∷ [])
  pub run_of_302 : Prints bytes_long (run_bytes run_long ++ 0 ∷ []) (57 ∷ 32 ∷ 48 ∷ 32 ∷ 48 ∷ 32 ∷ 48 ∷ 10 ∷ [])
  -- "Q10 2 2; 7 7 7: code 10": 10 0 0 0
  pub ten : Prints bytes_q (run_bytes (run (2 ∷ 2 ∷ []) (7 ∷ 7 ∷ 7 ∷ []))) (49 ∷ 48 ∷ 32 ∷ 48 ∷ 32 ∷ 48 ∷ 32 ∷ 48 ∷ 10 ∷ [])
  -- 9 0 0 0 for a run that is missing, 2 0 0 0 for a book that is
  pub nine : Prints bytes_q [] (57 ∷ 32 ∷ 48 ∷ 32 ∷ 48 ∷ 32 ∷ 48 ∷ 10 ∷ [])
  pub two : Prints [] [] (50 ∷ 32 ∷ 48 ∷ 32 ∷ 48 ∷ 32 ∷ 48 ∷ 10 ∷ [])
  -- 2 201 0 0
  pub two_at_201 : Prints (take 224 bytes_q) [] (50 ∷ 32 ∷ 50 ∷ 48 ∷ 49 ∷ 32 ∷ 48 ∷ 32 ∷ 48 ∷ 10 ∷ [])
  -- 3 225 0 0; 4 225 0 0; 5 225 0 0; 6 48 0 0; 7 1478 0 0; 13 6 0 0
  pub three : Prints (bytes_q ++ 0 ∷ 0 ∷ 4 ∷ 0 ∷ []) [] (51 ∷ 32 ∷ 50 ∷ 50 ∷ 53 ∷ 32 ∷ 48 ∷ 32 ∷ 48 ∷ 10 ∷ [])
  pub four : Prints (bytes_q ++ 1 ∷ 0 ∷ 3 ∷ 0 ∷ 9 ∷ []) [] (52 ∷ 32 ∷ 50 ∷ 50 ∷ 53 ∷ 32 ∷ 48 ∷ 32 ∷ 48 ∷ 10 ∷ [])
  pub five : Prints (bytes_q ++ 2 ∷ 0 ∷ 3 ∷ 0 ∷ 1 ∷ 9 ∷ []) [] (53 ∷ 32 ∷ 50 ∷ 50 ∷ 53 ∷ 32 ∷ 48 ∷ 32 ∷ 48 ∷ 10 ∷ [])
  pub six : Prints (with_move (move 0 2 6)) [] (54 ∷ 32 ∷ 52 ∷ 56 ∷ 32 ∷ 48 ∷ 32 ∷ 48 ∷ 10 ∷ [])
  pub seven : Prints (bytes_of many ++ 0 ∷ 0 ∷ 3 ∷ 0 ∷ []) [] (55 ∷ 32 ∷ 49 ∷ 52 ∷ 55 ∷ 56 ∷ 32 ∷ 48 ∷ 32 ∷ 48 ∷ 10 ∷ [])
  pub thirteen : Prints (after_device (6 ∷ 0 ∷ 5 ∷ 0 ∷ 1 ∷ 0 ∷ 1 ∷ 0 ∷ 1 ∷ 0 ∷ [])) [] (49 ∷ 51 ∷ 32 ∷ 54 ∷ 32 ∷ 48 ∷ 32 ∷ 48 ∷ 10 ∷ [])
  -- 8 225 0 0; 12 225 0 0
  pub eight : Prints (bytes_q ++ recorded item_q3) [] (56 ∷ 32 ∷ 50 ∷ 50 ∷ 53 ∷ 32 ∷ 48 ∷ 32 ∷ 48 ∷ 10 ∷ [])
  pub twelve : Prints (bytes_q ++ recorded item_q4) [] (49 ∷ 50 ∷ 32 ∷ 50 ∷ 50 ∷ 53 ∷ 32 ∷ 48 ∷ 32 ∷ 48 ∷ 10 ∷ [])
  -- 2 states and 3 commands: 0 0 1 1 and 0
  pub uneven : Prints bytes_p (run_bytes (run (1 ∷ []) (1 ∷ 3 ∷ []))) (48 ∷ 32 ∷ 48 ∷ 32 ∷ 49 ∷ 32 ∷ 49 ∷ 10 ∷ 48 ∷ 10 ∷ [])
