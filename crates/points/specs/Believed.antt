-- The belief states as an array. Assumes nothing: these are definitions.
use Rattle.std.specs.Prelude.{◌≡◌, List, ℕ, ◌≤◌, length, get_or}
use Rattle.reversal.specs.Device.{Device}
use Rattle.reversal.specs.Runs.{Run, last}
use Rattle.reversal.specs.Computed.Beliefs.{belief}
use Rattle.runs.specs.Computed.{last_of, run_of}

-- the possible states at the points of the run
pub record Believed (d : Device) (r : Run) (sets : List ℕ) : Type 0 where
  pub each : (j : ℕ) → j ≤ last r → get_or sets j 0 ≡ belief d r j

-- the contract of `beliefs`: it speaks of devices and runs within their limits, and of 33 masks or more
pub record BeliefsAs (d : Device) (run sets sets' : List ℕ) : Type 0 where
  pub believed : d.n ≤ 64 → d.m ≤ 32 → last_of run ≤ 32 → 33 ≤ length sets → Believed d (run_of run) sets'
