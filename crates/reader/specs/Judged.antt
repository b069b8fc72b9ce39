-- What the judgement of a record keeps. Assumes nothing: these are definitions.
use Rattle.std.specs.Prelude.{◌≡◌, List, length, get_or, ℕ, ◌+◌, ◌≤◌}
use Rattle.book.specs.declared.State.{State}
use Rattle.book.specs.Book.{Rec}

-- a state's numbers are within 01's limits
pub record Limits (st : State) : Type 0 where
  pub n_high : st.n ≤ 64
  pub m_high : st.m ≤ 32
  pub few : st.items ≤ 64

-- an item's body of k forward and r reverse commands
pub record Counted (body : List ℕ) (k r : ℕ) : Type 0 where
  pub k_is : k ≡ get_or body 0 0
  pub r_is : r ≡ get_or body 1 0
  pub k_high : k ≤ 8
  pub r_high : r ≤ 8
  pub size : length body ≡ 18 + k + r

abbrev pub rec : ℕ → List ℕ → Rec
rec kind body = record { kind = kind; body = body }
