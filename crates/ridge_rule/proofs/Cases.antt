-- The cases of the rule: in each, the set that the code makes holds the states to which the relation leads, and no others. Assumes nothing.
use mathlib.Core.Path.{◌≡◌, refl}
use mathlib.Core.Logic.{◌≢◌, ◌⊎◌, inl, inr}
use Prim.Native.Nat.{ℕ, ◌+◌, ◌-◌, ◌*◌, ◌≤◌, ◌<◌}
use native.Mathlib.Omega.{arith}
use native.Mathlib.Decide.{ℕ_discrete}
use lib.Bits.{bit_or}
use Rattle.base.specs.Bounded.{union}
use Rattle.lookups.specs.Rules.{OutcomesOf}
use Rattle.lookups.proofs.Rules.{of_one, of_two, of_union, of_none}
use Rattle.ridge_rule.specs.Ridge.{channel, power, mode, Rule, Leads, ridge}
use Rattle.ridge_rule.specs.Ridge.Rule.{channel_standby, channel_relay, channel_stays, set_power, set_mode, lock, unlock, any_channel, power_up, power_down}
use Rattle.ridge_rule.specs.Computed.{single}

-- ---- the relation read by command: what each leaves for the outcome
pub record Inverse (k c p q c' p' q' : ℕ) : Type 0 where
  pub inside : q' < 4
  standby : k ≤ 3 → q ≡ 0 → (c' ≡ k) × (p' ≡ p) × (q' ≡ q)
  relay : k ≤ 3 → q ≡ 1 → (p' ≡ p) × (q' ≡ q)
  stays : k ≤ 3 → q ≡ 1 → c' ≢ k → c' ≡ c
  powered : (4 ≤ k) × (k ≤ 7) → (c' ≡ c) × (p' ≡ k - 4) × (q' ≡ q)
  moded : (8 ≤ k) × (k ≤ 10) → (c' ≡ c) × (p' ≡ p) × (q' ≡ k - 8)
  locked : k ≡ 11 → (c' ≡ c) × (p' ≡ p) × (q' ≡ 3)
  unlocked : k ≡ 12 → (c' ≡ c) × (p' ≡ p) × (q' ≡ 0)
  any : k ≡ 13 → (p' ≡ p) × (q' ≡ q)
  up : k ≡ 14 → (c' ≡ c) × (p' ≡ p + 1) × (q' ≡ q)
  down : k ≡ 15 → (c' ≡ c) × (p' ≡ p - 1) × (q' ≡ q)

pub inverse : {k c p q c' p' q' : ℕ} → Rule k c p q c' p' q' → Inverse k c p q c' p' q'
inverse (channel_standby l o a) = omega arith
inverse (channel_relay l o a) = omega arith
inverse (channel_stays l o a) = omega arith
inverse (set_power l o a) = omega arith
inverse (set_mode l o a) = omega arith
inverse (lock l o a) = omega arith
inverse (unlock l o a) = omega arith
inverse (any_channel l o a) = omega arith
inverse (power_up l o a) = omega arith
inverse (power_down l o a) = omega arith

-- ---- the cases
abbrev Are : ℕ → ℕ → ℕ → ℕ → Type 0
Are t c p q = (channel t ≡ c) × (power t ≡ p) × (mode t ≡ q)

apart : (t c p q : ℕ) → c ≤ 3 → p ≤ 3 → t ≡ c + 4 * p + 16 * q → Are t c p q
apart t c p q lc lp e = omega arith

joined : (t c p q : ℕ) → Are t c p q → t ≡ c + 4 * p + 16 * q
joined t c p q a = omega arith

module _ (s k : ℕ) where
  abbrev c : ℕ
  c = channel s

  abbrev p : ℕ
  p = power s

  abbrev q : ℕ
  q = mode s

  one : (c' p' q' : ℕ) → c' ≤ 3 → p' ≤ 3 → ((t : ℕ) → Are t c' p' q' → Leads s k t) → ((t : ℕ) → Leads s k t → Are t c' p' q')
      → OutcomesOf ridge s k (single c' p' q')
  unfolding single
  one c' p' q' lc lp f g = of_one (c' + 4 * p' + 16 * q') (λ t e. f t (apart t c' p' q' lc lp e)) (λ t r. joined t c' p' q' (g t r))

  pub by_standby : k ≤ 3 → q ≡ 0 → OutcomesOf ridge s k (single k p q)
  by_standby l o = one k p q l (omega arith) (λ t. channel_standby l o) (λ t r. (inverse r).standby l o)

  pub by_relay : k ≤ 3 → q ≡ 1 → OutcomesOf ridge s k (bit_or (single k p q) (single c p q))
  unfolding single
  by_relay l o = of_two (k + 4 * p + 16 * q) (c + 4 * p + 16 * q) there (λ t r. back t (inverse r) (ℕ_discrete (channel t) k))
    where
      there : (t : ℕ) → (t ≡ k + 4 * p + 16 * q) ⊎ (t ≡ c + 4 * p + 16 * q) → Leads s k t
      there t (inl e) = channel_relay l o (apart t k p q l (omega arith) e)
      there t (inr e) = channel_stays l o (apart t c p q (omega arith) (omega arith) e)

      back : (t : ℕ) → Inverse k c p q (channel t) (power t) (mode t) → Dec (channel t ≡ k) → (t ≡ k + 4 * p + 16 * q) ⊎ (t ≡ c + 4 * p + 16 * q)
      back t i (yes e) = let (a, b) = i.relay l o in inl (joined t k p q (e, a, b))
      back t i (no n) = let (a, b) = i.relay l o in inr (joined t c p q (i.stays l o n, a, b))

  pub by_power : (4 ≤ k) × (k ≤ 7) → q ≤ 2 → OutcomesOf ridge s k (single c (k - 4) q)
  by_power l o = one c (k - 4) q (omega arith) (omega arith) (λ t. set_power l o) (λ t r. (inverse r).powered l)

  pub by_mode : (8 ≤ k) × (k ≤ 10) → q ≤ 2 → OutcomesOf ridge s k (single c p (k - 8))
  by_mode l o = one c p (k - 8) (omega arith) (omega arith) (λ t. set_mode l o) (λ t r. (inverse r).moded l)

  pub by_lock : k ≡ 11 → q ≤ 2 → OutcomesOf ridge s k (single c p 3)
  by_lock l o = one c p 3 (omega arith) (omega arith) (λ t. lock l o) (λ t r. (inverse r).locked l)

  pub by_unlock : k ≡ 12 → q ≡ 3 → OutcomesOf ridge s k (single c p 0)
  by_unlock l o = one c p 0 (omega arith) (omega arith) (λ t. unlock l o) (λ t r. (inverse r).unlocked l)

  pub by_any : k ≡ 13 → q ≡ 0 → OutcomesOf ridge s k (union (λ i. single i p q) 4)
  unfolding single
  by_any l o =
      of_union (λ i. i + 4 * p + 16 * q) 4 (λ t i b e. any_channel l o (omega (arith, apart t i p q (omega arith) (omega arith) e)))
      (λ t r. let (a, b) = (inverse r).any l in (channel t, omega arith, joined t (channel t) p q (refl, a, b)))

  pub by_up : k ≡ 14 → (p < 3) × (q ≤ 2) → OutcomesOf ridge s k (single c (p + 1) q)
  by_up l o = one c (p + 1) q (omega arith) (omega arith) (λ t. power_up l o) (λ t r. (inverse r).up l)

  pub by_down : k ≡ 15 → (0 < p) × (q ≤ 2) → OutcomesOf ridge s k (single c (p - 1) q)
  by_down l o = one c (p - 1) q (omega arith) (omega arith) (λ t. power_down l o) (λ t r. (inverse r).down l)

  -- where no command can be carried out
  abbrev pub Else : Type 0
  Else =
      (k ≤ 3 → 2 ≤ q)
      × (4 ≤ k → k ≤ 11 → 3 ≤ q)
      × (k ≡ 12 → q ≢ 3)
      × (k ≡ 13 → q ≢ 0)
      × (k ≡ 14 → p < 3 → 3 ≤ q)
      × (k ≡ 15 → 0 < p → 3 ≤ q)

  -- 01: "All else is empty."
  pub all_else : Else → OutcomesOf ridge s k 0
  all_else n = of_none none
    where
      none : (t : ℕ) → Leads s k t → ⊥
      none t (channel_standby l o a) = omega (arith, n.0 l)
      none t (channel_relay l o a) = omega (arith, n.0 l)
      none t (channel_stays l o a) = omega (arith, n.0 l)
      none t (set_power l o a) = omega (arith, n.1 (omega arith) (omega arith))
      none t (set_mode l o a) = omega (arith, n.1 (omega arith) (omega arith))
      none t (lock l o a) = omega (arith, n.1 (omega arith) (omega arith))
      none t (unlock l o a) = n.2 l o
      none t (any_channel l o a) = n.3 l o
      none t (power_up l o a) = omega (arith, n.4 l o.0)
      none t (power_down l o a) = omega (arith, n.5 l o.0)
