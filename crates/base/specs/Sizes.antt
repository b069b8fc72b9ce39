-- Lent buffers and the lengths stated for them (01, code 1: "a lent buffer shorter than stated"), for the reader. Assumes nothing: these are
-- definitions.
use Rattle.std.specs.Prelude.{List, ℕ, ◌≤◌}
use Rattle.base.specs.Lists.{Each}

-- the length of a lent buffer, and the length stated for it
pub record Sized : Type 0 where
  pub held : ℕ
  pub stated : ℕ

infix 4 ◌for◌
abbrev pub ◌for◌ : ℕ → ℕ → Sized
held for stated = record { held = held; stated = stated }

-- none is shorter than stated
abbrev pub LongEnough : List Sized → Type 0
LongEnough ss = Each (λ s. s.stated ≤ s.held) ss
