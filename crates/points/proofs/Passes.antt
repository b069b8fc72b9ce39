-- The forward and the backward pass over the run, turn by turn. Assumes nothing.
use mathlib.Core.Path.{◌≡◌, sym, ap, ap₂, ◌∙◌}
use mathlib.Core.List.{List}
use Prim.Native.Nat.{ℕ, suc, ◌+◌, ◌-◌, ◌≤◌, ◌<◌}
use native.Mathlib.Decide.{dec_lt}
use native.Mathlib.Numerals.{add-one}
use native.Mathlib.Omega.{arith}
use lib.Bits.{bit_and}
use lib.ListN.{length, get_or, set, length-set}
use lib.Seq.{get_or-set_same, get_or-set_other}
use Rattle.reversal.specs.Device.{Device}
use Rattle.reversal.specs.Runs.{Run, last, command, percept}
use Rattle.reversal.specs.Computed.Sets.{after}
use Rattle.reversal.specs.Computed.Beliefs.{filtered, preimage, smoothed, belief}
use Rattle.points.specs.Believed.{Believed}

-- the points up to j have what the forward pass gives
pub record Forward (d : Device) (r : Run) (i j : ℕ) (sets : List ℕ) : Type 0 where
  pub size : 33 ≤ length sets
  pub few : i ≤ 32
  pub low : j ≤ i
  pub each : (l : ℕ) → l ≤ j → get_or sets l 0 ≡ filtered d r l

-- the points from j on have what the backward pass gives, those below it still what the forward pass gave
pub record Backward (d : Device) (r : Run) (i j : ℕ) (sets : List ℕ) : Type 0 where
  pub size : 33 ≤ length sets
  pub few : i ≤ 32
  pub low : j ≤ i
  pub below : (l : ℕ) → l < j → get_or sets l 0 ≡ filtered d r l
  pub above : (l : ℕ) → j ≤ l → l ≤ i → get_or sets l 0 ≡ smoothed d r l (i - l)

module _ (d : Device) (r : Run) (i : ℕ) where
  pub forward-start : (zeros : List ℕ) (p : ℕ) → 33 ≤ length zeros → i ≤ 32 → p ≡ percept r 0 → Forward d r i 0 (set zeros 0 p)
  unfolding filtered
  forward-start zeros p s f e =
      record {
        size = omega (arith, length-set zeros 0 p, s);
        few = f;
        low = omega arith;
        each = λ l h. let z : l ≡ 0 = omega arith in rw z (get_or-set_same zeros 0 p 0 (omega (arith, s)) ∙ e);
      }

  module _ {j : ℕ} {sets : List ℕ} (g : Forward d r i j sets) where
    pub forward-next : (c p w : ℕ) → j < i → c ≡ command r j → p ≡ percept r (j + 1) → w ≡ bit_and (after d c (get_or sets j 0)) p
        → Forward d r i (j + 1) (set sets (j + 1) w)
    unfolding filtered
    forward-next c p w l a b e =
        record { size = omega (arith, length-set sets (j + 1) w, g.size); few = g.few; low = omega arith; each = each }
      where
        new : w ≡ filtered d r (suc j)
        new = e ∙ ap₂ bit_and (ap₂ (after d) a (g.each j (omega arith))) (b ∙ ap (percept r) (add-one j))

        each : (k : ℕ) → k ≤ j + 1 → get_or (set sets (j + 1) w) k 0 ≡ filtered d r k
        each k h = go (dec_lt j k)
          where
            go : Dec (j < k) → get_or (set sets (j + 1) w) k 0 ≡ filtered d r k
            go (yes q) =
                let z : k ≡ j + 1 = omega arith in
                rw z (get_or-set_same sets (j + 1) w 0 (omega (arith, g.size, g.few)) ∙ new ∙ ap (filtered d r) (sym (add-one j)))
            go (no q) = get_or-set_other sets (j + 1) k w 0 (λ z. omega arith) ∙ g.each k (omega arith)

    pub backward_start : j ≡ i → Backward d r i i sets
    unfolding smoothed
    backward_start e =
        record {
          size = g.size;
          few = g.few;
          low = omega arith;
          below = λ l h. g.each l (omega arith);
          above = λ l a b. let z : i - l ≡ 0 = omega arith in rw z (g.each l (omega arith));
        }

  module _ {j : ℕ} {sets : List ℕ} (g : Backward d r i j sets) where
    pub backward_next : (c w : ℕ) → 0 < j → c ≡ command r (j - 1) → w ≡ preimage d c (get_or sets (j - 1) 0) (get_or sets (j - 1 + 1) 0)
        → Backward d r i (j - 1) (set sets (j - 1) w)
    unfolding smoothed
    backward_next c w l a e =
        record {
          size = omega (arith, length-set sets (j - 1) w, g.size);
          few = g.few;
          low = omega (arith, g.low);
          below = λ k h. get_or-set_other sets (j - 1) k w 0 (λ z. omega arith) ∙ g.below k (omega arith);
          above = above;
        }
      where
        new : w ≡ smoothed d r (j - 1) (i - (j - 1))
        new =
            let s : i - (j - 1) ≡ suc (i - j) = omega (arith, g.low) in
            let up : j - 1 + 1 ≡ j = omega arith in
            let up' : suc (j - 1) ≡ j = omega arith in
            e ∙ rw (a, g.below (j - 1) (omega arith), up, g.above j (omega arith) g.low, s, up')

        above : (k : ℕ) → j - 1 ≤ k → k ≤ i → get_or (set sets (j - 1) w) k 0 ≡ smoothed d r k (i - k)
        above k h b = go (dec_lt (j - 1) k)
          where
            go : Dec (j - 1 < k) → get_or (set sets (j - 1) w) k 0 ≡ smoothed d r k (i - k)
            go (yes q) = get_or-set_other sets (j - 1) k w 0 (λ z. omega arith) ∙ g.above k (omega arith) b
            go (no q) =
                let z : k ≡ j - 1 = omega arith in
                rw z (get_or-set_same sets (j - 1) w 0 (omega (arith, g.size, g.few, g.low)) ∙ new)

    pub backward_done : j ≡ 0 → i ≡ last r → Believed d r sets
    unfolding belief
    backward_done e f = record { each = λ k h. g.above k (omega arith) (omega arith) ∙ ap (λ (x : ℕ). smoothed d r k (x - k)) f }
