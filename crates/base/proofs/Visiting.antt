-- Loops over the states present in a set: their invariant, the law of one visit and of the end, over anything that is gathered on the way. Assumes nothing.
use mathlib.Core.Path.{◌≡◌, refl, sym, ap, ◌∙◌}
use mathlib.Core.Bool.{Bool, true, false}
use mathlib.Core.List.{List, [], ◌∷◌, foldl, foldl-append}
use Prim.Native.Nat.{ℕ, zero, suc, ◌≤◌, ◌<◌}
use native.Mathlib.Omega.{arith}
use Rattle.base.specs.Tests.{pick, both, imp}
use Rattle.base.specs.Bounded.{all, any}
use Rattle.base.specs.Cardinality.{member, present}
use Rattle.base.specs.Masks.{lowest_in, without}
use Rattle.base.proofs.Tests.{pick_self, both_true}
use Rattle.base.proofs.Present.{present-end, present-next}

module _ {A : Type 0} (step : A → ℕ → A) (n : ℕ) where
  -- what the visits of the states in w make of a
  abbrev pub gathered : A → ℕ → A
  gathered a w = foldl step a (present n w)

  -- the invariant of every loop over the states present: the next state is the lowest of the rest, and with the visits of the rest a becomes the whole
  pub record Visiting (whole a : A) (rest next : ℕ) : Type 0 where
    pub lowest : next ≡ lowest_in rest
    pub gives : gathered a rest ≡ whole

  module _ (whole a : A) (rest next : ℕ) (v : Visiting whole a rest next) where
    pub visit_next : n ≤ 64 → (rest' next' : ℕ) → next < n → rest' ≡ without rest next → next' ≡ lowest_in rest'
        → Visiting whole (step a next) rest' next'
    visit_next few rest' next' l e f =
        record {
          lowest = f;
          gives =
              rw (e, v.lowest) (sym (ap (foldl step a) (present-next n rest few (rw v.lowest at l))) ∙ v.gives);
        }

    pub visit_end : n ≤ next → a ≡ whole
    visit_end l = sym (ap (foldl step a) (present-end n rest (rw v.lowest at l))) ∙ v.gives

-- what a search over all states below a bound gives, where those that are not in w change nothing
pub gathered_is : {A : Type 0} (step : A → ℕ → A) (whole : ℕ → A) (w n : ℕ)
    → ((k : ℕ) → k < n → whole (suc k) ≡ pick (member w k) (step (whole k) k) (whole k)) → gathered step n (whole 0) w ≡ whole n
unfolding present pick
gathered_is step whole w zero e = refl
gathered_is {A} step whole w (suc n) e =
    foldl-append step (whole 0) (present n w) (pick (member w n) (n ∷ []) [])
    ∙ ap (λ (a : A). foldl step a (pick (member w n) (n ∷ []) [])) (gathered_is step whole w n (λ k l. e k (omega arith)))
    ∙ last (member w n)
    ∙ sym (e n (omega arith))
  where
    last : (b : Bool) → foldl step (whole n) (pick b (n ∷ []) []) ≡ pick b (step (whole n) n) (whole n)
    last true = refl
    last false = refl

-- one state more: whether all pass the test g, and whether some does
abbrev pub all_so_far : (ℕ → Bool) → Bool → ℕ → Bool
all_so_far g b s = both b (g s)

abbrev pub some_so_far : (ℕ → Bool) → Bool → ℕ → Bool
some_so_far g b s = pick b true (g s)

module _ (g : ℕ → Bool) (n w : ℕ) where
  -- of the states below k, those in w
  abbrev every : ℕ → Bool
  every k = all (λ s. imp (member w s) (g s)) k

  abbrev some : ℕ → Bool
  some k = any (λ s. both (member w s) (g s)) k

  pub all_gathered : gathered (all_so_far g) n true w ≡ every n
  unfolding all both imp pick
  all_gathered = gathered_is (all_so_far g) every w n (λ k l. go k (member w k))
    where
      go : (k : ℕ) (t : Bool) → both (every k) (imp t (g k)) ≡ pick t (all_so_far g (every k) k) (every k)
      go k true = refl
      go k false = both_true (every k)

  pub any_gathered : gathered (some_so_far g) n false w ≡ some n
  unfolding any both pick
  any_gathered = gathered_is (some_so_far g) some w n (λ k l. go k (member w k))
    where
      go : (k : ℕ) (t : Bool) → pick (some k) true (both t (g k)) ≡ pick t (some_so_far g (some k) k) (some k)
      go k true = refl
      go k false = pick_self (some k)

  -- after one that fails
  pub all_failed : gathered (all_so_far g) n false w ≡ false
  unfolding both
  all_failed = go (present n w)
    where
      go : (xs : List ℕ) → foldl (all_so_far g) false xs ≡ false
      go [] = refl
      go (s ∷ xs) = go xs
