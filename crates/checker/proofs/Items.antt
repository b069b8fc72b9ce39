-- The loops over starts and commands: each way through the code, of the item that is judged. Assumes nothing.
use mathlib.Core.Path.{◌≡◌, refl, sym, ap, ap₂, ◌∙◌}
use mathlib.Core.Bool.{Bool, true, false, not}
use mathlib.Core.List.{List, [], ◌∷◌, foldl}
use Prim.Native.Nat.{ℕ, suc, ◌+◌, ◌-◌, ◌/◌, ◌%◌, ◌^◌, ◌≤◌, ◌<◌}
use native.Mathlib.Omega.{arith}
use Rattle.std.specs.Prelude.{Ok, Err}
use lib.Bits.{bit_and}
use lib.Dec.{eqb}
use Rattle.base.specs.Tests.{pick, both, imp}
use Rattle.base.specs.Cardinality.{present}
use Rattle.base.specs.Masks.{added}
use Rattle.base.specs.Lists.{Each}
use Rattle.base.proofs.Tests.{true_t, pick_self, pick_either}
use Rattle.base.proofs.Visiting.{all_so_far, some_so_far, all_gathered, any_gathered}
use Rattle.octets.specs.Le.{bytes_le}
use Rattle.reversal.specs.Device.{Device}
use Rattle.reversal.specs.Reversal.{Item}
use Rattle.reversal.specs.Units.{start_units}
use Rattle.reversal.specs.Computed.Sets.{reach, ends, start_ok, reverses, start_used, effective}
use Rattle.reversal.specs.Computed.Units.{start_made, starts_made, item_made}
use Rattle.reversal.proofs.Units.{start-all}
use Rattle.states.specs.declared.StateSet.{StateSet}
use Rattle.states.specs.StateSets.{set_of, after_in}
use Rattle.states.proofs.Laws.{after-limits, one_state}
use Rattle.states.proofs.Row.{row_below, each_below}
use Rattle.checker.specs.Contract.{back_of}
use Rattle.checker.proofs.Laws.{back_ok, back_err}

-- ---- forward commands: those that are left lead on from the set to where all of them lead from the start

-- the next one is sent
pub reach_on : (d : Device) (c w w' : ℕ) (cs : List ℕ) → d.n ≤ 64 → d.m ≤ 32 → w' ≡ after_in d c w → reach d w' cs ≡ reach d w (c ∷ cs)
unfolding reach
reach_on d c w w' cs hn hm q = ap (λ (v : ℕ). reach d v cs) (q ∙ after-limits d c w hn hm)

module _ (d : Device) (S : ℕ) (forward : List ℕ) where
  -- the `left` commands that are the lowest bytes of `rest`
  abbrev pub Leading : ℕ → ℕ → ℕ → Type 0
  Leading w left rest = reach d w (bytes_le left rest) ≡ reach d (2 ^ S) forward

  pub reach-start : (none set : StateSet) (left rest : ℕ) → S < 64 → none ≡ set_of 0 → set ≡ set_of (added none.mask S) → bytes_le left rest ≡ forward
      → Leading set.mask left rest
  reach-start none set left rest h z e q = rw q (ap (λ (w : ℕ). reach d w forward) (one_state S h z e))

  pub reach-next : (w w' left left' rest : ℕ) → d.n ≤ 64 → d.m ≤ 32 → left ≡ suc left' → Leading w left rest → w' ≡ after_in d (rest % 256) w
      → Leading w' left' (rest / 256)
  unfolding bytes_le
  reach-next w w' left left' rest hn hm e h q = reach_on d (rest % 256) w w' (bytes_le left' (rest / 256)) hn hm q ∙ (rw e at h)

  -- none is left
  pub reach-all : (w w' left rest phi phi' : ℕ) → left ≡ 0 → Leading w left rest → phi' ≡ phi → w' ≡ bit_and w phi' → w' ≡ ends d forward phi S
  unfolding reach bytes_le ends
  reach-all w w' left rest phi phi' e h p q = q ∙ ap₂ bit_and (rw e at h) p

-- ---- starts
module _ (d : Device) (x : Item) where
  -- the start has an end in phi
  abbrev has_end : ℕ → Bool
  has_end S = not (eqb (ends d x.forward x.phi S) 0)

  -- the starts to come are states; the starts before them pass, and whether some of them is used: with those to come they give the judgement; the units
  -- so far, `before` where the item was begun, with those of the starts to come give the item's
  pub record Passed (before : ℕ) (starts : List ℕ) (units : ℕ) (used : Bool) : Type 0 where
    pub states : Each (λ S. S < d.n) starts
    pub all_pass : foldl (all_so_far (start_ok d x)) true starts ≡ reverses d x
    pub some_used : foldl (some_so_far has_end) used starts ≡ effective d x
    pub count : units + starts_made d x starts ≡ before + item_made d x

  pub none_passed : (units psi : ℕ) → d.n ≤ 64 → psi ≡ x.psi → Passed units (present 64 (psi % 2 ^ d.n)) units false
  unfolding reverses effective start_used item_made
  none_passed units psi few p =
      rw (row_below d.n psi few, p) (
      record {
        states = each_below d.n x.psi;
        all_pass = all_gathered (start_ok d x) d.n x.psi;
        some_used = any_gathered has_end d.n x.psi;
        count = refl;
      }
      )

  -- where one start failed, not every one passes
  failed : (starts : List ℕ) → foldl (all_so_far (start_ok d x)) false starts ≡ false
  unfolding both
  failed [] = refl
  failed (S ∷ starts) = failed starts

  module _ {before units : ℕ} {starts : List ℕ} {used : Bool} (passed : Passed before starts units used) where
    -- all starts
    pub starts-done : starts ≡ [] → (reverses d x ≡ true) × (effective d x ≡ used) × (units ≡ before + item_made d x)
    unfolding starts_made
    starts-done none =
        (sym (rw none at passed.all_pass), sym (rw none at passed.some_used), let e = rw none at passed.count in omega arith)

    module _ (start : ℕ) (starts' : List ℕ) (split : starts ≡ start ∷ starts') where
      pub start_state : start < d.n
      start_state = (rw split at passed.states).0

      -- the units of this start, and of those after it
      this_start : units + (start_made d x start + pick (start_ok d x start) (starts_made d x starts') 0) ≡ before + item_made d x
      unfolding starts_made
      this_start = rw split at passed.count

      -- one start more, which passes, and is used or not: all its commands are applied
      one_passed : (used' : Bool) (units' : ℕ) → start_ok d x start ≡ true → some_so_far has_end used start ≡ used' → units' ≡ units + start_units x
          → Passed before starts' units' used'
      unfolding both pick
      one_passed used' units' ok u g =
          record {
            states = (rw split at passed.states).1;
            all_pass = rw ok at (rw split at passed.all_pass);
            some_used = rw u at (rw split at passed.some_used);
            count = let h = rw ok at this_start in omega (arith, start-all d x start (true_t _ ok));
          }

      -- its ends, and what their reverse run answers
      module _ (at : ℕ) (all-ends : at ≡ ends d x.forward x.phi start) where
        pub start_none : (units' : ℕ) → units' ≡ units + start_units x → eqb at 0 ≡ true → Passed before starts' units' used
        unfolding start_ok imp
        start_none units' g z = one_passed used units' (rw (← all-ends, z)) (rw (← all-ends, z) (pick_self used)) g

        pub start_back : (units' : ℕ) → units' ≡ units + start_units x → eqb at 0 ≡ false → {u : Unit {0}} → Ok u ≡ back_of d at x.reverse start
            → Passed before starts' units' true
        unfolding start_ok imp
        start_back units' g z run =
            one_passed true units' (rw (← all-ends, z) (back_ok d at x.reverse start run)) (rw (← all-ends, z) (pick_either used true)) g

        pub start_fails : eqb at 0 ≡ false → {behind : ℕ} → Err behind ≡ back_of d at x.reverse start
            → (reverses d x ≡ false) × (units + start_units x - behind ≡ before + item_made d x) × (behind ≤ start_units x)
        unfolding start_ok start_made imp both pick
        start_fails z {behind} run =
            let (wrong, applied) = back_err d at x.reverse start run in
            let fails : start_ok d x start ≡ false = rw (← all-ends, z, wrong) in (
              sym (rw split at passed.all_pass) ∙ ap (λ (b : Bool). foldl (all_so_far (start_ok d x)) b starts') fails ∙ failed starts',
              let h = rw (fails, ← all-ends) at this_start in omega arith,
              omega arith,
            )
