-- Moves without a fault that stand one after the other, and where judging them leads. Assumes nothing: these are definitions.
use Rattle.std.specs.Prelude.{◌≡◌, true, List, ℕ, ◌+◌, ◌≤◌, length, get_or}
use Rattle.octets.specs.Parts.{le_at}
use Rattle.book.specs.declared.State.{State}
use Rattle.book.specs.declared.kind.Kind.TheVariants.{MoveRecord}
use Rattle.book.specs.declared.phase.Phase.TheVariants.{AtMoves}
use Rattle.book.specs.Book.{Move, index}
use Rattle.book.specs.Limits.{move_fine, move_with}
use Rattle.book.specs.Parse.{allows}

-- the move whose record begins at `at`
abbrev pub move_in : List ℕ → ℕ → Move
move_in s at = move_with (get_or s (at + 4) 0) (get_or s (at + 5) 0) (le_at 8 s (at + 6))

-- the contract of `low_after`: a move without a fault stands at `at`, and the lowest index that may follow it is `next`
pub record GoodMove (s : List ℕ) (at n m low next : ℕ) : Type 0 where
  pub length_is : le_at 2 s at ≡ 10
  pub kind_is : le_at 2 s (at + 2) ≡ 2
  pub fine : move_fine n m (move_in s at) ≡ true
  pub rising : low ≤ index m (move_in s at)
  pub next_is : next ≡ index m (move_in s at) + 1

-- the state after a move
abbrev pub moved : State → ℕ → State
moved st low = record { phase = AtMoves; n = st.n; m = st.m; low = low; items = st.items }

-- the contract of `past_moves`: from `from` in state st judging has passed such moves, and is at a place in a state
pub data Passing (s : List ℕ) (from : ℕ) (st : State) : ℕ → State → Type 0 where
  none : Passing s from st from st
  one : {at next : ℕ} {after : State} → Passing s from st at after → at + 14 ≤ length s → GoodMove s at after.n after.m after.low next
      → allows after.phase MoveRecord ≡ true → Passing s from st (at + 14) (moved after next)
