-- The ways through the code that runs the forward commands, keeps the ends of the starts and tests a row of commands on them; a row as three commands.
-- Assumes nothing.
use mathlib.Core.Path.{◌≡◌, refl, sym, ap, ◌∙◌}
use mathlib.Core.Bool.{Bool, true, false, false≢true}
use mathlib.Core.Logic.{⊎_elim}
use mathlib.Core.List.{List, [], ◌∷◌}
use Prim.Native.Nat.{ℕ, zero, suc, ◌+◌, ◌/◌, ◌%◌, ◌^◌, ◌≤◌, ◌<◌}
use native.Mathlib.Nat.{le_of_suc-le-suc, eq-or-lt_of_le}
use native.Mathlib.Numerals.{add-one}
use native.Mathlib.Omega.{arith}
use borrow.Author.Tests.{lt-ltb}
use lib.Bits.{bit_and}
use lib.Dec.{eqb}
use lib.ListN.{length, get_or, set, length-set, drop, drop_of_length-le}
use lib.Seq.{drop-cons, get_or-set_same, get_or-set_other}
use Rattle.base.specs.Tests.{pick, both}
use Rattle.base.specs.Cardinality.{member, present}
use Rattle.base.specs.Masks.{added}
use Rattle.base.proofs.Tests.{T_true}
use Rattle.base.proofs.Added.{one_more_other}
use Rattle.base.proofs.Visiting.{gathered, gathered_is, all_so_far, all_gathered}
use Rattle.octets.specs.Le.{bytes_le}
use Rattle.reversal.specs.Device.{Device}
use Rattle.reversal.specs.Computed.Sets.{reach, ends, start_used}
use Rattle.states.specs.declared.StateSet.{StateSet}
use Rattle.states.specs.StateSets.{set_of, after_in}
use Rattle.states.proofs.Laws.{one_state}
use Rattle.states.proofs.Row.{Coming, coming_first, coming_next}
use Rattle.checker.specs.Contract.{returns_in}
use Rattle.checker.proofs.Items.{reach_on}
use Rattle.finder.specs.Finds.{Sought, item_of}
use Rattle.finder.specs.Contract.{EndsKept, all_back, Passing, answer}
use Rattle.finder.proofs.Passes.{none_pass, mark_yes, mark_no, fails_on}

-- ---- forward commands: those that are left lead on from the set to where all of them lead from the start
module _ (d : Device) (S : ℕ) (forward : List ℕ) where
  abbrev pub Leading : ℕ → ℕ → Type 0
  Leading w j = reach d w (drop j forward) ≡ reach d (2 ^ S) forward

  pub lead_start : (none set : StateSet) → S < 64 → none ≡ set_of 0 → set ≡ set_of (added none.mask S) → Leading set.mask 0
  lead_start none set h z e = ap (λ (w : ℕ). reach d w forward) (one_state S h z e)

  pub lead_next : (w w' j c : ℕ) → d.n ≤ 64 → d.m ≤ 32 → j < length forward → c ≡ get_or forward j 0 → Leading w j → w' ≡ after_in d c w → Leading w' (j + 1)
  lead_next w w' j c hn hm l e h q =
      let next : reach d w' (drop (suc j) forward) ≡ reach d w (drop j forward)
      = reach_on d (get_or forward j 0) w w' (drop (suc j) forward) hn hm (q ∙ ap (λ (x : ℕ). after_in d x w) e)
      ∙ sym (ap (reach d w) (drop-cons forward j 0 l)) in
      rw add-one (next ∙ h)

  pub lead_all : (w w' j phi : ℕ) → length forward ≤ j → Leading w j → w' ≡ bit_and w phi → w' ≡ ends d forward phi S
  unfolding reach ends
  lead_all w w' j phi l h q = q ∙ ap (λ (v : ℕ). bit_and v phi) (rw (drop_of_length-le forward l) at h)

-- ---- starts: of those in psi, each that has ends is used, and its ends are stored
module _ (d : Device) (q : Sought) where
  abbrev pub ends_at : ℕ → ℕ
  ends_at S = ends d q.forward q.phi S

  abbrev used_at : ℕ → Bool
  used_at S = start_used d (item_of q []) S

  -- one start more: what is stored, and the starts that are used
  abbrev pub keep_one : List ℕ × ℕ → ℕ → List ℕ × ℕ
  keep_one a S = pick (eqb (ends_at S) 0) a (set a.0 S (ends_at S), added a.1 S)

  module _ (kept : List ℕ) where
    -- the starts below k
    abbrev pub kept_below : ℕ → List ℕ × ℕ
    kept_below zero = (kept, 0)
    kept_below (suc k) = pick (member q.psi k) (keep_one (kept_below k) k) (kept_below k)

    pub all_kept : gathered keep_one d.n (kept, 0) q.psi ≡ kept_below d.n
    all_kept = gathered_is keep_one kept_below q.psi d.n (λ k l. refl)

    record KeptTo (k : ℕ) (a : List ℕ × ℕ) : Type 0 where
      pub size : length a.0 ≡ 64
      pub used : Passing k used_at a.1
      pub stored : (S : ℕ) → S < k → member a.1 S ≡ true → get_or a.0 S 0 ≡ ends_at S

    module _ (k : ℕ) (a : List ℕ × ℕ) (h : KeptTo k a) where
      -- a start that is not used
      unused : used_at k ≡ false → KeptTo (suc k) a
      unused f =
          let no = mark_no used_at k a.1 h.used f in
          record {
            size = h.size;
            used = no;
            stored = λ S l t. ⊎_elim (λ (e : S ≡ k). absurd (false≢true (sym f ∙ (rw e at (sym (no.each S l) ∙ t))))) (λ (g : S < k). h.stored S g t)
                (eq-or-lt_of_le (le_of_suc-le-suc l));
          }

      -- one that is
      used_one : k < 64 → used_at k ≡ true → KeptTo (suc k) (set a.0 k (ends_at k), added a.1 k)
      unfolding added pick
      used_one few t =
          rw (lt-ltb k 64 few) (
          record {
            size = length-set a.0 k (ends_at k) ∙ h.size;
            used = mark_yes used_at k a.1 h.used t;
            stored = λ S l u. ⊎_elim (λ (e : S ≡ k). rw e (get_or-set_same a.0 k (ends_at k) 0 (omega (arith, few, h.size))))
                (λ (g : S < k). get_or-set_other a.0 k S (ends_at k) 0 (λ e. omega (arith, g, e))
                ∙ h.stored S g (sym (one_more_other a.1 k S (λ e. omega (arith, g, e))) ∙ u)) (eq-or-lt_of_le (le_of_suc-le-suc l));
          }
          )

      kept_next : k < 64 → (b : Bool) → member q.psi k ≡ b → (z : Bool) → eqb (ends_at k) 0 ≡ z
          → KeptTo (suc k) (pick b (pick z a (set a.0 k (ends_at k), added a.1 k)) a)
      unfolding start_used both pick
      kept_next few true e true f = unused (rw (e, f))
      kept_next few true e false f = used_one few (rw (e, f))
      kept_next few false e z f = unused (rw e)

    kept_to : d.n ≤ 64 → length kept ≡ 64 → (k : ℕ) → k ≤ d.n → KeptTo k (kept_below k)
    kept_to few size zero l = record { size = size; used = none_pass 0 (λ c h. absurd (omega (arith, h))); stored = λ S h t. absurd (omega (arith, h)) }
    kept_to few size (suc k) l =
        kept_next k (kept_below k) (kept_to few size k (omega (arith, l))) (omega (arith, few, l)) (member q.psi k) refl (eqb (ends_at k) 0) refl

    pub ends_kept : d.n ≤ 64 → length kept ≡ 64 → (a : List ℕ × ℕ) → a ≡ kept_below d.n → EndsKept d q a.0 a.1
    ends_kept few size a e =
        let k = kept_to few size d.n (omega arith) in
        rw e (
        record {
          size = k.size;
          low = k.used.low;
          starts = k.used.each;
          stored = λ S l t. k.stored S l (T_true _ t);
        }
        )

-- ---- a row of commands: the starts that are used come back from their ends
module _ (d : Device) (kept commands : List ℕ) where
  abbrev pub back_at : ℕ → Bool
  back_at S = returns_in d (get_or kept S 0) commands S

  abbrev pub Backing : Bool → List ℕ → Type 0
  Backing whole starts = Coming (all_so_far back_at) d.n whole true starts

  pub back_start : (used : ℕ) → d.n ≤ 64 → Backing (all_back d kept used commands) (present 64 (used % 2 ^ d.n))
  unfolding all_back
  back_start used few = coming_first (all_so_far back_at) d.n used true _ few (all_gathered back_at d.n used)

  module _ {whole : Bool} {starts : List ℕ} (b : Backing whole starts) (S : ℕ) (starts' : List ℕ) (split : starts ≡ S ∷ starts') where
    next : Coming (all_so_far back_at) d.n whole (all_so_far back_at true S) starts'
    next = coming_next (all_so_far back_at) d.n whole true starts b S starts' split

    -- one that doesn't
    pub back_fails : back_at S ≡ false → false ≡ whole
    unfolding both
    back_fails f = sym (fails_on back_at starts') ∙ (rw f at next.gives)

    pub back_passes : back_at S ≡ true → Backing whole starts'
    unfolding both
    back_passes t = rw t at next

-- ---- a row as three commands
pub answer-is : (count row : ℕ)
    → record { code = 0; place = 0; count = count; commands = row % 256 ∷ row / 256 % 256 ∷ row / 65536 % 256 ∷ [] } ≡ answer count row
unfolding bytes_le
answer-is count row =
    let third : row / 65536 % 256 ≡ row / 256 / 256 % 256 = omega arith in
    ap (λ (x : ℕ). record { code = 0; place = 0; count = count; commands = row % 256 ∷ row / 256 % 256 ∷ x ∷ [] }) third
