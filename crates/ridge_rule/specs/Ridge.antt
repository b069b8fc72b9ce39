-- The ridge repeater's rule as a relation on channel, power and mode (01, "The ridge repeater"), for the reader. Assumes nothing: these are definitions.
use Rattle.std.specs.Prelude.{◌≡◌, ℕ, ◌+◌, ◌-◌, ◌/◌, ◌%◌, ◌≤◌, ◌<◌}
use Rattle.lookups.specs.Rules.{DeviceRule}

-- 01: "State = c + 4 × p + 16 × q: channel c, power p, mode q, each 0 to 3 (standby, relay, beacon, locked)."
-- So mode 0 is standby, 1 relay, 2 beacon and 3 locked.
abbrev pub channel : ℕ → ℕ
channel s = s % 4

abbrev pub power : ℕ → ℕ
power s = s / 4 % 4

abbrev pub mode : ℕ → ℕ
mode s = s / 16

-- Command k may lead from channel c, power p and mode q to channel c', power p' and mode q'.
-- Each case has the command, where it can be carried out, and the outcome; 01: "All else is empty."
pub data Rule (k c p q c' p' q' : ℕ) : Type 0 where
  -- "Commands 0 to 3 set the channel: in standby it becomes the command's number;"
  channel_standby : k ≤ 3 → q ≡ 0 → (c' ≡ k) × (p' ≡ p) × (q' ≡ q) → Rule k c p q c' p' q'
  -- "in relay it becomes that .."
  channel_relay : k ≤ 3 → q ≡ 1 → (c' ≡ k) × (p' ≡ p) × (q' ≡ q) → Rule k c p q c' p' q'
  -- ".. or stays."
  channel_stays : k ≤ 3 → q ≡ 1 → (c' ≡ c) × (p' ≡ p) × (q' ≡ q) → Rule k c p q c' p' q'
  -- "Commands 4 to 7 set the power to number - 4, modes 0 to 2."
  set_power : (4 ≤ k) × (k ≤ 7) → q ≤ 2 → (c' ≡ c) × (p' ≡ k - 4) × (q' ≡ q) → Rule k c p q c' p' q'
  -- "8 to 10 set mode number - 8, modes 0 to 2."
  set_mode : (8 ≤ k) × (k ≤ 10) → q ≤ 2 → (c' ≡ c) × (p' ≡ p) × (q' ≡ k - 8) → Rule k c p q c' p' q'
  -- "11 sets mode 3, modes 0 to 2."
  lock : k ≡ 11 → q ≤ 2 → (c' ≡ c) × (p' ≡ p) × (q' ≡ 3) → Rule k c p q c' p' q'
  -- "12 sets mode 0, mode 3 only."
  unlock : k ≡ 12 → q ≡ 3 → (c' ≡ c) × (p' ≡ p) × (q' ≡ 0) → Rule k c p q c' p' q'
  -- "13, standby: any channel."
  any_channel : k ≡ 13 → q ≡ 0 → (c' ≤ 3) × (p' ≡ p) × (q' ≡ q) → Rule k c p q c' p' q'
  -- "14: p + 1 where p < 3; .. both modes 0 to 2."
  power_up : k ≡ 14 → (p < 3) × (q ≤ 2) → (c' ≡ c) × (p' ≡ p + 1) × (q' ≡ q) → Rule k c p q c' p' q'
  -- "15: p - 1 where p > 0; both modes 0 to 2."
  power_down : k ≡ 15 → (0 < p) × (q ≤ 2) → (c' ≡ c) × (p' ≡ p - 1) × (q' ≡ q) → Rule k c p q c' p' q'

-- command k may lead from state s to state t
abbrev pub Leads : ℕ → ℕ → ℕ → Type 0
Leads s k t = Rule k (channel s) (power s) (mode s) (channel t) (power t) (mode t)

-- 01: "64 states, 16 commands."
abbrev pub ridge : DeviceRule
ridge = record { n = 64; m = 16; Leads = Leads }
