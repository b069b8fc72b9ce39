-- The portable relay's rule as a relation on channel, power and mode (02, CR 1), for the reader. Assumes nothing: these are definitions.
use Rattle.std.specs.Prelude.{◌≡◌, ℕ, ◌-◌, ◌/◌, ◌%◌, ◌≤◌}
use Rattle.lookups.specs.Rules.{DeviceRule}

-- 02: "32 states, c + 8 × p + 16 × q, with channel c 0 to 7, power p 0 or 1, mode q 0 (standby) or 1 (relay)"
abbrev pub channel : ℕ → ℕ
channel s = s % 8

abbrev pub power : ℕ → ℕ
power s = s / 8 % 2

abbrev pub mode : ℕ → ℕ
mode s = s / 16

-- Command k may lead from channel c, power p and mode q to channel c', power p' and mode q'.
-- Each case has the command, where it can be carried out, and the outcome; "in every state" is in modes 0 and 1.
pub data Rule (k c p q c' p' q' : ℕ) : Type 0 where
  -- "Commands 0 to 7 set the channel: in standby exactly,"
  channel_standby : k ≤ 7 → q ≡ 0 → (c' ≡ k) × (p' ≡ p) × (q' ≡ q) → Rule k c p q c' p' q'
  -- "in relay that channel .."
  channel_relay : k ≤ 7 → q ≡ 1 → (c' ≡ k) × (p' ≡ p) × (q' ≡ q) → Rule k c p q c' p' q'
  -- ".. or the present one."
  channel_present : k ≤ 7 → q ≡ 1 → (c' ≡ c) × (p' ≡ p) × (q' ≡ q) → Rule k c p q c' p' q'
  -- "Commands 8 and 9 set power 0 and 1, .. in every state."
  set_power : (8 ≤ k) × (k ≤ 9) → q ≤ 1 → (c' ≡ c) × (p' ≡ k - 8) × (q' ≡ q) → Rule k c p q c' p' q'
  -- "10 sets relay, .. in every state."
  set_relay : k ≡ 10 → q ≤ 1 → (c' ≡ c) × (p' ≡ p) × (q' ≡ 1) → Rule k c p q c' p' q'
  -- "11 sets standby, in every state."
  set_standby : k ≡ 11 → q ≤ 1 → (c' ≡ c) × (p' ≡ p) × (q' ≡ 0) → Rule k c p q c' p' q'

-- command k may lead from state s to state t
abbrev pub Leads : ℕ → ℕ → ℕ → Type 0
Leads s k t = Rule k (channel s) (power s) (mode s) (channel t) (power t) (mode t)

-- 02: "32 states .. and 12 commands"
abbrev pub portable : DeviceRule
portable = record { n = 32; m = 12; Leads = Leads }
