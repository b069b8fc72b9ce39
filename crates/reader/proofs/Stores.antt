-- Stores into the table, over plain variables. Assumes nothing.
use mathlib.Core.Path.{◌≡◌, sym}
use mathlib.Core.List.{List}
use Prim.Native.Nat.{ℕ, ◌+◌, ◌*◌, ◌≤◌}
use lib.ListN.{length, get_or, set}
use lib.Seq.{set_out}
use Rattle.octets.specs.Parts.{le_at}
use Rattle.reader.specs.Filling.{move_stored}

module _ (s : List ℕ) (at m : ℕ) (t : List ℕ) (state command : ℕ) (a : state ≡ get_or s (at + 4) 0) (b : command ≡ get_or s (at + 5) 0) where
  pub move_put : (mask : ℕ) → mask ≡ le_at 8 s (at + 6) → set t (state * m + command) mask ≡ move_stored m s at t
  unfolding move_stored
  move_put mask c = rw (a, b, c)

  -- past the end
  pub move_past : length t ≤ state * m + command → t ≡ move_stored m s at t
  unfolding move_stored
  move_past h = sym (rw (a, b) at (set_out t (state * m + command) (le_at 8 s (at + 6)) h))
