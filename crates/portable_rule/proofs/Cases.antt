-- The cases of the rule: in each, the set that the code makes holds the states to which the relation leads, and no others. Assumes nothing.
use mathlib.Core.Path.{◌≡◌}
use mathlib.Core.Logic.{◌⊎◌, inl, inr}
use Prim.Native.Nat.{ℕ, ◌+◌, ◌-◌, ◌*◌, ◌≤◌, ◌<◌}
use native.Mathlib.Omega.{arith}
use lib.Bits.{bit_or}
use Rattle.lookups.specs.Rules.{OutcomesOf}
use Rattle.lookups.proofs.Rules.{of_one, of_two, of_none}
use Rattle.portable_rule.specs.Portable.{channel, power, mode, Rule, Leads, portable}
use Rattle.portable_rule.specs.Portable.Rule.{channel_standby, channel_relay, channel_present, set_power, set_relay, set_standby}
use Rattle.portable_rule.specs.Computed.{single}

-- ---- the relation read by command: what each leaves for the outcome
pub record Inverse (k c p q c' p' q' : ℕ) : Type 0 where
  pub inside : q' < 2
  bounds : (k < 12) × (q < 2)
  standby : k ≤ 7 → q ≡ 0 → (c' ≡ k) × (p' ≡ p) × (q' ≡ q)
  powered : (8 ≤ k) × (k ≤ 9) → (c' ≡ c) × (p' ≡ k - 8) × (q' ≡ q)
  relayed : k ≡ 10 → (c' ≡ c) × (p' ≡ p) × (q' ≡ 1)
  stood_by : k ≡ 11 → (c' ≡ c) × (p' ≡ p) × (q' ≡ 0)

pub inverse : {k c p q c' p' q' : ℕ} → Rule k c p q c' p' q' → Inverse k c p q c' p' q'
inverse (channel_standby l o a) = omega arith
inverse (channel_relay l o a) = omega arith
inverse (channel_present l o a) = omega arith
inverse (set_power l o a) = omega arith
inverse (set_relay l o a) = omega arith
inverse (set_standby l o a) = omega arith

-- ---- the cases
abbrev Are : ℕ → ℕ → ℕ → ℕ → Type 0
Are t c p q = (channel t ≡ c) × (power t ≡ p) × (mode t ≡ q)

apart : (t c p q : ℕ) → c ≤ 7 → p ≤ 1 → t ≡ c + 8 * p + 16 * q → Are t c p q
apart t c p q lc lp e = omega arith

joined : (t c p q : ℕ) → Are t c p q → t ≡ c + 8 * p + 16 * q
joined t c p q a = omega arith

module _ (s k : ℕ) where
  abbrev c : ℕ
  c = channel s

  abbrev p : ℕ
  p = power s

  abbrev q : ℕ
  q = mode s

  one : (c' p' q' : ℕ) → c' ≤ 7 → p' ≤ 1 → ((t : ℕ) → Are t c' p' q' → Leads s k t) → ((t : ℕ) → Leads s k t → Are t c' p' q')
      → OutcomesOf portable s k (single c' p' q')
  unfolding single
  one c' p' q' lc lp f g = of_one (c' + 8 * p' + 16 * q') (λ t e. f t (apart t c' p' q' lc lp e)) (λ t r. joined t c' p' q' (g t r))

  pub by_standby : k ≤ 7 → q ≡ 0 → OutcomesOf portable s k (single k p q)
  by_standby l o = one k p q l (omega arith) (λ t. channel_standby l o) (λ t r. (inverse r).standby l o)

  pub by_relay : k ≤ 7 → q ≡ 1 → OutcomesOf portable s k (bit_or (single k p q) (single c p q))
  unfolding single
  by_relay l o = of_two (k + 8 * p + 16 * q) (c + 8 * p + 16 * q) there back
    where
      there : (t : ℕ) → (t ≡ k + 8 * p + 16 * q) ⊎ (t ≡ c + 8 * p + 16 * q) → Leads s k t
      there t (inl e) = channel_relay l o (apart t k p q l (omega arith) e)
      there t (inr e) = channel_present l o (apart t c p q (omega arith) (omega arith) e)

      back : (t : ℕ) → Leads s k t → (t ≡ k + 8 * p + 16 * q) ⊎ (t ≡ c + 8 * p + 16 * q)
      back t (channel_standby h z a) = absurd (omega arith)
      back t (channel_relay h z a) = inl (joined t k p q a)
      back t (channel_present h z a) = inr (joined t c p q a)
      back t (set_power h z a) = absurd (omega arith)
      back t (set_relay h z a) = absurd (omega arith)
      back t (set_standby h z a) = absurd (omega arith)

  pub by_power : (8 ≤ k) × (k ≤ 9) → q ≤ 1 → OutcomesOf portable s k (single c (k - 8) q)
  by_power l o = one c (k - 8) q (omega arith) (omega arith) (λ t. set_power l o) (λ t r. (inverse r).powered l)

  pub by_set_relay : k ≡ 10 → q ≤ 1 → OutcomesOf portable s k (single c p 1)
  by_set_relay l o = one c p 1 (omega arith) (omega arith) (λ t. set_relay l o) (λ t r. (inverse r).relayed l)

  pub by_set_standby : k ≡ 11 → q ≤ 1 → OutcomesOf portable s k (single c p 0)
  by_set_standby l o = one c p 0 (omega arith) (omega arith) (λ t. set_standby l o) (λ t r. (inverse r).stood_by l)

  -- what is no state or no command has no outcomes
  pub by_none : (1 < q) ⊎ (11 < k) → OutcomesOf portable s k 0
  by_none n = of_none (λ t r. none (inverse r).bounds n)
    where
      none : (k < 12) × (q < 2) → (1 < q) ⊎ (11 < k) → ⊥
      none b (inl h) = omega arith
      none b (inr h) = omega arith
