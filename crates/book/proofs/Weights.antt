-- Weights: those that are all 1 have no record, the others one; and the lent weights after reading are the book's. Assumes nothing.
use mathlib.Core.Path.{◌≡◌, refl, sym, ap, ap₂, ◌∙◌, subst}
use mathlib.Core.Bool.{Bool, true, false, false≢true}
use mathlib.Core.List.{List, [], ◌∷◌}
use Prim.Native.Nat.{ℕ, zero, suc, ◌<◌, ◌≤◌}
use native.Mathlib.Omega.{arith}
use lib.ListN.{length, get_or, take, replicate, length-replicate}
use lib.Seq.{get_or-take}
use Rattle.base.specs.Lists.{Each}
use Rattle.base.specs.Tests.{pick, both}
use Rattle.base.specs.Compare.{same}
use Rattle.base.proofs.Lists.{stored}
use Rattle.base.proofs.Parts.{each-replicate}
use Rattle.base.proofs.Compare.{same_on}
use Rattle.base.proofs.Picks.{pick_elim}
use Rattle.base.proofs.Decides.{Decides}
use Rattle.reversal.specs.Weights.{AllowedWeight, AllowedWeights}
use Rattle.octets.specs.Parts.{piece}
use Rattle.octets.proofs.Put.{piece-take}
use Rattle.book.specs.Book.{Book, AllowedBook, Rec, weights_rec, all_one, weights_recs}
use Rattle.book.specs.Limits.{weight_fine, weights_fine}
use Rattle.book.specs.Lent.{WeightsRead}
use Rattle.book.specs.Buffers.{weights_left}

-- ---- tests of each weight
pub fine_decide : Decides weight_fine weights_fine
unfolding weights_fine
fine_decide = record { nil = refl; cons = λ w ws. refl }

pub ones_decide : Decides (λ w. same w 1) all_one
unfolding all_one both pick
ones_decide = record { nil = refl; cons = λ w ws. go (same w 1) (all_one ws) }
  where
    go : (a b : Bool) → both a b ≡ pick a b false
    go true b = refl
    go false b = refl

-- ---- all of them 1
pub all_one_lem : (m : ℕ) → all_one (replicate m 1) ≡ true
unfolding all_one both same
all_one_lem zero = refl
all_one_lem (suc m) = all_one_lem m

pub ones_are : (ws : List ℕ) → all_one ws ≡ true → ws ≡ replicate (length ws) 1
unfolding all_one both
ones_are [] e = refl
ones_are (w ∷ ws) e = go (same w 1) refl e (ones_are ws)
  where
    go : (t : Bool) → same w 1 ≡ t → both t (all_one ws) ≡ true → (all_one ws ≡ true → ws ≡ replicate (length ws) 1) → w ∷ ws ≡ 1 ∷ replicate (length ws) 1
    go true k e ih = ap₂ (λ (x : ℕ) (xs : List ℕ). x ∷ xs) (same_on w 1 k) (ih e)
    go false k e ih = absurd (false≢true e)

one-allowed : AllowedWeight 1
one-allowed = record { low = omega arith; high = omega arith }

pub ones-fine : (ws : List ℕ) → all_one ws ≡ true → Each AllowedWeight ws
ones-fine ws e = subst (Each AllowedWeight) (sym (ones_are ws e)) (each-replicate AllowedWeight (length ws) one-allowed)

pub ones-allowed : (m : ℕ) → AllowedWeights m (replicate m 1)
ones-allowed m = record { count = length-replicate {A = ℕ} m 1; each = each-replicate AllowedWeight m one-allowed }

-- ---- their record
pub weights_elim : (P : List Rec → Type 0) (ws : List ℕ) → (all_one ws ≡ true → P []) → (all_one ws ≡ false → P (weights_rec ws ∷ [])) → P (weights_recs ws)
unfolding weights_recs
weights_elim P ws f g = pick_elim P (all_one ws) [] (weights_rec ws ∷ []) f g

pub none_of_ones : (ws : List ℕ) → all_one ws ≡ true → weights_recs ws ≡ []
none_of_ones ws e = weights_elim (λ (rs : List Rec). rs ≡ []) ws (λ _. refl) (λ f. absurd (false≢true (sym f ∙ e)))

pub one_of_others : (ws : List ℕ) → all_one ws ≡ false → weights_recs ws ≡ weights_rec ws ∷ []
one_of_others ws e = weights_elim (λ (rs : List Rec). rs ≡ weights_rec ws ∷ []) ws (λ f. absurd (false≢true (sym e ∙ f))) (λ _. refl)

-- ---- after reading
module _ (b : Book) (old : List ℕ) (a : AllowedBook b) (l : 32 ≤ length old) where
  pub weights_read : WeightsRead b old (weights_left b old)
  weights_read = stored b.weights old (weights_left b old) (omega (arith, a.weighed.count, a.device.m_high)) refl

  pub weight-holds : (c : ℕ) → c < b.m → get_or (weights_left b old) c 0 ≡ get_or b.weights c 0
  weight-holds c h =
      sym (get_or-take (length b.weights) (weights_left b old) c 0 (omega (arith, a.weighed.count)))
      ∙ ap (λ (ws : List ℕ). get_or ws c 0) weights_read.front

  pub weights-found : piece b.m (weights_left b old) 0 ≡ b.weights
  weights-found =
      piece-take b.m (weights_left b old) 0 (omega (arith, weights_read.size, a.device.m_high))
      ∙ ap (λ (k : ℕ). take k (weights_left b old)) (sym a.weighed.count)
      ∙ weights_read.front
