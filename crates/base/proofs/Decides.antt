-- A test of each element of a row, made one after the other: what is left decides the whole. Assumes nothing.
use mathlib.Core.Path.{◌≡◌, sym, ap, ◌∙◌}
use mathlib.Core.Bool.{Bool, true, false}
use mathlib.Core.List.{List, [], ◌∷◌}
use Prim.Native.Nat.{ℕ}
use Rattle.base.specs.Tests.{pick}

-- each passes f
pub record Decides (f : ℕ → Bool) (each : List ℕ → Bool) : Type 0 where
  pub nil : each [] ≡ true
  pub cons : (x : ℕ) (xs : List ℕ) → each (x ∷ xs) ≡ pick (f x) (each xs) false

module _ {f : ℕ → Bool} {each : List ℕ → Bool} (d : Decides f each) {whole : Bool} (left : List ℕ) (e : each left ≡ whole) where
  pub left-none : left ≡ [] → true ≡ whole
  left-none n = sym (ap each n ∙ d.nil) ∙ e

  module _ (x : ℕ) (xs : List ℕ) (n : left ≡ x ∷ xs) where
    here : pick (f x) (each xs) false ≡ whole
    here = sym (ap each n ∙ d.cons x xs) ∙ e

    pub left_passes : f x ≡ true → each xs ≡ whole
    unfolding pick
    left_passes t = rw t at here

    pub left_fails : f x ≡ false → false ≡ whole
    unfolding pick
    left_fails t = rw t at here
