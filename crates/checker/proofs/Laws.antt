-- Laws of reverse runs, over plain variables. Assumes nothing.
use mathlib.Core.Path.{◌≡◌, refl, sym, ap, ◌∙◌}
use mathlib.Core.Bool.{Bool, true, false}
use mathlib.Core.List.{List, ◌∷◌}
use Prim.Native.Nat.{ℕ, zero, suc, ◌+◌, ◌-◌, ◌/◌, ◌%◌, ◌^◌, ◌≤◌, ◌<◌}
use native.Mathlib.Omega.{arith}
use lib.ListN.{length}
use Rattle.std.specs.Prelude.{Ok, Err, is_ok}
use Rattle.base.specs.Tests.{pick, both}
use Rattle.octets.specs.Le.{bytes_le}
use Rattle.octets.proofs.Le.{length-bytes_le}
use Rattle.reversal.specs.Device.{Device}
use Rattle.reversal.specs.Computed.Sets.{after, runs_back}
use Rattle.reversal.specs.Computed.Units.{back_units}
use Rattle.reversal.proofs.Units.{back_most}
use Rattle.states.specs.StateSets.{only_in, in_limits, after_in, able_in}
use Rattle.states.proofs.Laws.{only_word, after-limits, able-limits}
use Rattle.checker.specs.Contract.{back_of, returns_in}

-- ---- commands as the bytes of a number
pub next_byte : (left w : ℕ) → (left ≡ 0 → ⊥) → bytes_le left w ≡ w % 256 ∷ bytes_le (left - 1) (w / 256)
unfolding bytes_le
next_byte zero w f = absurd (f refl)
next_byte (suc k) w f = let e : suc k - 1 ≡ k = omega arith in rw e

-- ---- each way through a reverse run
module _ (d : Device) (w rest left goal : ℕ) where
  pub back_there : left ≡ 0 → w < 2 ^ 64 → only_in w goal ≡ true → Ok tt ≡ back_of d w (bytes_le left rest) goal
  unfolding back_of runs_back pick bytes_le
  back_there e h q = rw (e, sym (only_word w goal h) ∙ q)

  pub back_elsewhere : left ≡ 0 → w < 2 ^ 64 → only_in w goal ≡ false → Err 0 ≡ back_of d w (bytes_le left rest) goal
  unfolding back_of runs_back back_units pick bytes_le
  back_elsewhere e h q = rw (e, sym (only_word w goal h) ∙ q)

  -- the next command, and the rest
  module _ (hn : d.n ≤ 64) (hm : d.m ≤ 32) (more : left ≡ 0 → ⊥) where
    pub back_fails : able_in d (rest % 256) w ≡ false → Err (left - 1) ≡ back_of d w (bytes_le left rest) goal
    unfolding back_of runs_back back_units both pick
    back_fails e =
        rw (next_byte left rest more, sym (able-limits d (rest % 256) w hn hm) ∙ e) (ap Err (omega (arith, length-bytes_le (left - 1) (rest / 256))))

    pub back_more : able_in d (rest % 256) w ≡ true
        → back_of d (after_in d (rest % 256) w) (bytes_le (left - 1) (rest / 256)) goal ≡ back_of d w (bytes_le left rest) goal
    unfolding back_of runs_back back_units both pick
    back_more e =
        rw (next_byte left rest more, sym (able-limits d (rest % 256) w hn hm) ∙ e, after-limits d (rest % 256) w hn hm)
        (ap (λ (v : ℕ). pick (runs_back d (after d (rest % 256) w) (bytes_le (left - 1) (rest / 256)) goal) (Ok tt) (Err v)) (omega arith))

-- ---- what the answer says
module _ (d : Device) (w : ℕ) (commands : List ℕ) (goal : ℕ) where
  pub back_right : runs_back d w commands goal ≡ true → back_of d w commands goal ≡ Ok tt
  unfolding back_of pick
  back_right e = rw e

  pub back_wrong : runs_back d w commands goal ≡ false → back_of d w commands goal ≡ Err (length commands - back_units d w commands)
  unfolding back_of pick
  back_wrong e = rw e

  -- what it says where it arrives, and where it doesn't: the commands that were not applied, with those that were
  pub back_ok : {u : Unit {0}} → Ok u ≡ back_of d w commands goal → runs_back d w commands goal ≡ true
  back_ok e = go (runs_back d w commands goal) refl
    where
      go : (b : Bool) → runs_back d w commands goal ≡ b → b ≡ true
      go true f = refl
      go false f = let g = e ∙ back_wrong f in cc

  pub back_err : {behind : ℕ} → Err behind ≡ back_of d w commands goal
      → (runs_back d w commands goal ≡ false) × (behind + back_units d w commands ≡ length commands)
  back_err {behind} e = go (runs_back d w commands goal) refl
    where
      go : (b : Bool) → runs_back d w commands goal ≡ b → (b ≡ false) × (behind + back_units d w commands ≡ length commands)
      go true f = let g = e ∙ back_right f in cc
      go false f = (refl, let g : behind ≡ length commands - back_units d w commands = let h = e ∙ back_wrong f in cc in omega (arith, g, back_most d commands w))

  -- whether it arrives, inside the limits and outside
  pub returns_out : in_limits d.n d.m ≡ false → false ≡ returns_in d w commands goal
  unfolding returns_in pick
  returns_out e = rw e

  pub returns_back : in_limits d.n d.m ≡ true → is_ok (back_of d w commands goal) ≡ returns_in d w commands goal
  unfolding returns_in back_of pick
  returns_back e = rw e (go (runs_back d w commands goal))
    where
      go : (b : Bool) → is_ok (pick b (Ok (tt {0})) (Err (length commands - back_units d w commands))) ≡ b
      go true = refl
      go false = refl
