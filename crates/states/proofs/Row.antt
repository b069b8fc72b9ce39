-- The row of a set's states, lowest first, as an iterator gives them, and loops over it. Assumes nothing.
use mathlib.Core.Path.{◌≡◌, sym, ◌∙◌}
use mathlib.Core.List.{List, [], ◌∷◌, foldl}
use Prim.Native.Nat.{ℕ, ◌%◌, ◌^◌, ◌≤◌, ◌<◌}
use native.Mathlib.Nat.{mod-lt}
use native.Mathlib.Omega.{arith}
use lib.Pow.{pow_pos}
use Rattle.base.specs.Lists.{Each}
use Rattle.base.specs.Sets.{In}
use Rattle.base.specs.Cardinality.{present}
use Rattle.base.specs.Masks.{lowest_in, without}
use Rattle.base.specs.Present.{Present}
use Rattle.base.proofs.Parts.{each_map}
use Rattle.base.proofs.Masks.{below_clear}
use Rattle.base.proofs.Present.{present-is, present_unique, present-end, present-next}
use Rattle.base.proofs.Visits.{none-low, lowest-low, present-low}
use Rattle.states.specs.declared.StateSet.{StateSet}
use Rattle.states.specs.StateSets.{set_of}

-- ---- one step of the iterator
pub row_end : (w : ℕ) → w ≡ 0 → present 64 w ≡ []
row_end w e = present-end 64 w (none-low 64 w (omega arith) e)

pub row_next : (w s : ℕ) (left : StateSet) → (w ≡ 0 → ⊥) → w < 2 ^ 64 → s ≡ lowest_in w → left ≡ set_of (without w (lowest_in w))
    → present 64 w ≡ s ∷ present 64 left.mask
row_next w s left e l f g = rw (f, g) (present-next 64 w (omega arith) (lowest-low 64 w (omega arith) l e))

-- ---- the states below n, as `below` leaves them
pub row_below : (n w : ℕ) → n ≤ 64 → present 64 (w % 2 ^ n) ≡ present n w
row_below n w few = sym (present_unique row (present-is 64 (w % 2 ^ n))) ∙ present-low n w
  where
    p : Present n (w % 2 ^ n) (present n (w % 2 ^ n))
    p = present-is n (w % 2 ^ n)

    row : Present 64 (w % 2 ^ n) (present n (w % 2 ^ n))
    row =
        record {
          ascending = p.ascending;
          each_there =
              each_map {P = λ s. (s < n) × In (w % 2 ^ n) s} {Q = λ s. (s < 64) × In (w % 2 ^ n) s} (λ s (l, h). (omega arith, h)) (present n (w % 2 ^ n)) p.each_there;
          none_missing = λ s l h. p.none_missing s (below_clear n (w % 2 ^ n) (mod-lt w (pow_pos n)) s h) h;
        }

pub each_below : (n w : ℕ) → Each (λ s. s < n) (present n w)
each_below n w = each_map {P = λ s. (s < n) × In w s} {Q = λ s. s < n} (λ s (l, h). l) (present n w) (present-is n w).each_there

-- ---- loops: the states to come are below n, and with them a becomes the whole
module _ {A : Type 0} (step : A → ℕ → A) (n : ℕ) where
  pub record Coming (whole a : A) (left : List ℕ) : Type 0 where
    pub below : Each (λ s. s < n) left
    pub gives : foldl step a left ≡ whole

  pub coming_first : (w : ℕ) (a whole : A) → n ≤ 64 → foldl step a (present n w) ≡ whole → Coming whole a (present 64 (w % 2 ^ n))
  coming_first w a whole few e =
      record {
        below = rw (row_below n w few) (each_below n w);
        gives = rw (row_below n w few) e;
      }

  module _ (whole a : A) (xs : List ℕ) (h : Coming whole a xs) where
    pub coming_next : (s : ℕ) (ys : List ℕ) → xs ≡ s ∷ ys → Coming whole (step a s) ys
    coming_next s ys e = record { below = (rw e at h.below).1; gives = rw e at h.gives }

    pub coming_end : xs ≡ [] → a ≡ whole
    coming_end e = rw e at h.gives
