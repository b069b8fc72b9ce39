-- Two moves of one state, and Q's 225 bytes, looked up with literal numbers. Assumes nothing: these are definitions.
use Rattle.std.specs.Prelude.{◌≡◌, List, [], ◌∷◌, ℕ, ◌≤◌, length, get_or}
use Rattle.book.specs.Example.{bytes_q}
use Rattle.moves.specs.Moves.{moved_to, move_added, Indexed}

-- state 1 may go to 1 or 2 with command 0, and to 0 or 8 with command 3
abbrev pub two : List ℕ
two =
    10 ∷ 0 ∷ 2 ∷ 0 ∷ 1 ∷ 0 ∷ 6 ∷ 0 ∷ 0 ∷ 0 ∷ 0 ∷ 0 ∷ 0 ∷ 0 ∷ 10 ∷ 0 ∷ 2 ∷ 0 ∷ 1 ∷ 3 ∷ 1 ∷ 1 ∷ 0 ∷ 0 ∷ 0 ∷ 0 ∷ 0 ∷ 0 ∷ []

pub record TwoMoves : Type 0 where
  -- the first mask stands at 6; 589,830 is 6 + 65,536 × (1 + 8)
  pub move_at_first : move_added two 0 (0 ∷ 0 ∷ []) ≡ 0 ∷ 65542 ∷ []
  pub last_move : move_added two 14 (0 ∷ 65542 ∷ []) ≡ 0 ∷ 589830 ∷ []
  pub first_outcomes : moved_to two 589830 0 ≡ 6
  pub last_outcomes : moved_to two 589830 3 ≡ 257
  -- a command between them has no move, nor has one after them, nor one past the row
  pub between : moved_to two 589830 2 ≡ 0
  pub above : moved_to two 589830 4 ≡ 0
  pub past_row : moved_to two 589830 64 ≡ 0
  -- state 0 has no move
  pub no_row : moved_to two 0 0 ≡ 0

-- in 64 masks: state 0 has the outcomes 6 at command 2, state 1 none
pub record QIndexed : Type 0 where
  pub outcomes : {old new : List ℕ} → Indexed bytes_q old new → 64 ≤ length old
      → (moved_to bytes_q (get_or new 0 0) 2 ≡ 6) × (moved_to bytes_q (get_or new 1 0) 2 ≡ 0)
