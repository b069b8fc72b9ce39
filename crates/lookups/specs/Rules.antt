-- Devices given by a rule, for the reader. Assumes nothing: these are definitions.
use Rattle.std.specs.Prelude.{◌↔◌, ℕ, ◌<◌}
use Rattle.base.specs.Sets.{In}

-- n states, m commands, and the rule: command k may lead from state s to state t
pub record DeviceRule : Type 1 where
  pub n : ℕ
  pub m : ℕ
  pub Leads : ℕ → ℕ → ℕ → Type 0

-- w is the set of the states to which command k may lead from state s
pub record OutcomesOf (d : DeviceRule) (s k w : ℕ) : Type 0 where
  pub states : (t : ℕ) → In w t ↔ d.Leads s k t

-- f works the rule out: at each state and command of the device it gives the set of the outcomes
abbrev pub WorksOut : DeviceRule → (ℕ → ℕ → ℕ) → Type 0
WorksOut d f = (s k : ℕ) → s < d.n → k < d.m → OutcomesOf d s k (f s k)

-- 01: "Every mask has no bit at n or above": what the rule leads to is a state of the device
abbrev pub LeadsInside : DeviceRule → Type 0
LeadsInside d = (s k t : ℕ) → d.Leads s k t → t < d.n
