-- Plans that do not undo a run, each by one history: Q5's run from 0 to 1 with the empty plan and with a plan that is stuck in 1; a run from 2
-- with a plan that ends in 0. Assumes nothing.
use mathlib.Core.Path.{◌≡◌, refl}
use mathlib.Core.List.{[], ◌∷◌}
use Prim.Native.Nat.{ℕ, zero, suc, ◌≤◌, ◌<◌}
use native.Mathlib.Omega.{arith}
use lib.Dec.{lit<}
use Rattle.base.specs.Sets.{In}
use Rattle.base.specs.Tests.{pick, both}
use Rattle.base.proofs.Masks.{in_zero}
use Rattle.reversal.specs.Device.{Transition, entry}
use Rattle.reversal.specs.Runs.{Run, command, percept, History}
use Rattle.reversal.specs.Chains.{Undoes}
use Rattle.reversal.specs.Twelve.{Q, run}

abbrev five : Run
five = run (2 ∷ 1 ∷ []) (7 ∷ 7 ∷ 7 ∷ [])

-- states 0, 1, 1
abbrev path : ℕ → ℕ
path zero = 0
path (suc j) = 1

history : History Q five path
unfolding entry pick both
history = record { state = state; seen = seen; moved = moved }
  where
    state : (j : ℕ) → j ≤ 2 → path j < 3
    state zero l = lit< tt
    state (suc j) l = lit< tt

    seen : (j : ℕ) → j ≤ 2 → In (percept five j) (path j)
    seen zero l = refl
    seen (suc zero) l = refl
    seen (suc (suc zero)) l = refl
    seen (suc (suc (suc j))) l = absurd (omega arith)

    moved : (j : ℕ) → j < 2 → Transition Q (path j) (command five j) (path (suc j))
    moved zero l = record { source = lit< tt; command = lit< tt; outcome = refl; target = lit< tt }
    moved (suc zero) l = record { source = lit< tt; command = lit< tt; outcome = refl; target = lit< tt }
    moved (suc (suc j)) l = absurd (omega arith)

pub stuck-plan : Undoes Q five (2 ∷ []) → ⊥
unfolding entry pick both
stuck-plan u =
    let able : (Y : ℕ) × Transition Q 1 2 Y = (u path history).0 in
    in_zero able.0 able.1.outcome

pub empty-plan : Undoes Q five [] → ⊥
empty-plan u = let e : ◌≡◌ {A = ℕ} 1 0 = u path history in omega arith

-- a history that begins elsewhere than in state 0: command 1 from state 2; the plan 0 is never stuck, and ends in 0
abbrev other : Run
other = run (1 ∷ []) (4 ∷ 7 ∷ [])

abbrev from_2 : ℕ → ℕ
from_2 zero = 2
from_2 (suc j) = 1

history_2 : History Q other from_2
unfolding entry pick both
history_2 = record { state = state; seen = seen; moved = moved }
  where
    state : (j : ℕ) → j ≤ 1 → from_2 j < 3
    state zero l = lit< tt
    state (suc j) l = lit< tt

    seen : (j : ℕ) → j ≤ 1 → In (percept other j) (from_2 j)
    seen zero l = refl
    seen (suc zero) l = refl
    seen (suc (suc j)) l = absurd (omega arith)

    moved : (j : ℕ) → j < 1 → Transition Q (from_2 j) (command other j) (from_2 (suc j))
    moved zero l = record { source = lit< tt; command = lit< tt; outcome = refl; target = lit< tt }
    moved (suc j) l = absurd (omega arith)

pub wrong-end : Undoes Q other (0 ∷ []) → ⊥
unfolding entry pick both
wrong-end u =
    let e : ◌≡◌ {A = ℕ} 0 2 = (u from_2 history_2).1 0 (record { source = lit< tt; command = lit< tt; outcome = refl; target = lit< tt }) in omega arith
