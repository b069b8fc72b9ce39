-- The lowest number that fails a test is the lowest at which what the test tells does not hold. Assumes nothing.
use mathlib.Core.Path.{◌≡◌, refl, sym, ap, ◌∙◌}
use mathlib.Core.Bool.{Bool, true, false, not, false≢true}
use Prim.Native.Nat.{ℕ, ◌<◌, ◌≤◌}
use native.Mathlib.Omega.{arith}
use lib.Dec.{T}
use borrow.Author.Tests.{not-true}
use Rattle.base.specs.Bounded.{seek}
use Rattle.base.proofs.Tests.{T_true, true_t}
use Rattle.base.proofs.Bounded.{seek_hit, seek-low}
use Rattle.base.specs.Lowest.{LowestWrong}

-- below k the test g passes exactly where P holds
pub record Tells (g : ℕ → Bool) (P : ℕ → Type 0) (k : ℕ) : Type 0 where
  pub on : (i : ℕ) → i < k → g i ≡ true → P i
  pub of : (i : ℕ) → i < k → P i → g i ≡ true

module _ (g : ℕ → Bool) (k : ℕ) where
  -- the lowest that fails the test; k where none does
  abbrev failing : ℕ
  failing = seek (λ i. not (g i)) 0 k

  pub passes : (i : ℕ) → i < failing → i < k → g i ≡ true
  passes i l h = go (g i) refl
    where
      go : (b : Bool) → g i ≡ b → g i ≡ true
      go true e = e
      go false e =
          let t : T (not (g i)) = true_t (not (g i)) (ap not e) in
          absurd (omega (arith, seek-low (λ i. not (g i)) k 0 i (omega arith) (omega arith) t))

  pub fails : failing < k → g failing ≡ false
  fails l = not-true _ (T_true _ (seek_hit (λ i. not (g i)) k 0 (omega arith)))

  module _ {P : ℕ → Type 0} (tells : Tells g P k) where
    wrong-there : failing < k → P failing → ⊥
    wrong-there l p = false≢true (sym (fails l) ∙ tells.of failing l p)

    pub lowest-wrong : failing < k → LowestWrong P k failing
    lowest-wrong l = record { inside = l; wrong = wrong-there l; before = λ j h. tells.on j (omega arith) (passes j h (omega arith)) }

    pub none-wrong : k ≤ failing → (i : ℕ) → i < k → P i
    none-wrong l i h = tells.on i h (passes i (omega arith) h)

    pub wrong-lowest : (i : ℕ) → LowestWrong P k i → failing ≡ i
    wrong-lowest i w =
        let a : failing < i → ⊥ = λ l. wrong-there (omega (arith, w.inside)) (w.before failing (omega arith)) in
        let b : i < failing → ⊥ = λ l. w.wrong (tells.on i w.inside (passes i l w.inside)) in
        omega arith

    pub wrong-none : ((i : ℕ) → i < k → P i) → k ≤ failing
    wrong-none f =
        let a : failing < k → ⊥ = λ l. wrong-there l (f failing l) in
        omega arith

-- there is one at most
pub one-lowest : {P : ℕ → Type 0} {k i j : ℕ} → LowestWrong P k i → LowestWrong P k j → i ≡ j
one-lowest {i = i} {j} f g =
    let a : i < j → ⊥ = λ l. f.wrong (g.before i (omega arith)) in
    let b : j < i → ⊥ = λ l. g.wrong (f.before j (omega arith)) in
    omega arith
