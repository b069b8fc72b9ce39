-- Worked runs at both sides of the limits (01, "Runs and what may have happened"), with literal numbers. Assumes nothing: these are definitions.
use Rattle.std.specs.Prelude.{◌≡◌, [], ◌∷◌, ◌++◌, length, replicate}
use Rattle.reversal.specs.Twelve.{Q, run}
use Rattle.reversal.specs.Slips.{P}
use Rattle.reversal.specs.Longest.{run_long}
use Rattle.runs.specs.RunBytes.{run_bytes, RunFormed}

pub record Edges : Type 0 where
  -- "i (0 to 32)": none is a run, 32 are, 33 are none; "Its body has 9 + 9 × i bytes."
  pub i_0 : RunFormed Q (run_bytes (run [] (7 ∷ [])))
  pub i_32 : RunFormed Q (run_bytes run_long)
  pub i_33 : RunFormed Q (run_bytes (run (replicate 33 1) (replicate 34 2))) → ⊥
  pub size_0 : length (run_bytes (run [] (7 ∷ []))) ≡ 13
  pub size_32 : length (run_bytes run_long) ≡ 301
  -- one byte after the longest run
  pub byte_302 : RunFormed Q (run_bytes run_long ++ 0 ∷ []) → ⊥
  -- a device with 2 states and 3 commands: "a command or mask is outside m or n"
  pub inside : RunFormed P (run_bytes (run (2 ∷ []) (3 ∷ 3 ∷ [])))
  pub command_3 : RunFormed P (run_bytes (run (3 ∷ []) (3 ∷ 3 ∷ []))) → ⊥
  pub bit_2 : RunFormed P (run_bytes (run (2 ∷ []) (3 ∷ 4 ∷ []))) → ⊥
