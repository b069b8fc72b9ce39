-- The largest r of a row of items as the code takes it is the one that 02 says, which leaves one number only; how long a chain from a point and its
-- plan may be; units and largest r of the worked items. Assumes nothing.
use mathlib.Core.Path.{◌≡◌, refl, sym, ◌∙◌}
use mathlib.Core.Logic.{◌⊎◌, inl, inr}
use mathlib.Core.List.{List, [], ◌∷◌}
use Prim.Native.Nat.{ℕ, suc, ◌*◌, ◌≤◌, ◌<◌}
use native.Mathlib.Nat.{suc-mul, mul-le-mul_right}
use native.Mathlib.Omega.{arith}
use lib.Dec.{lit<, lit≤}
use lib.ListN.{length, length-append}
use Rattle.base.specs.Lists.{Each}
use Rattle.base.specs.Tests.{pick}
use Rattle.base.specs.Compare.{less}
use Rattle.base.specs.Cardinality.{member, present}
use Rattle.base.proofs.Lists.{each_at}
use Rattle.base.proofs.Compare.{less_on, less_off}
use Rattle.base.proofs.Picks.{pick_elim}
use Rattle.reversal.specs.Device.{Device}
use Rattle.reversal.specs.Reversal.{Item, AllowedItem}
use Rattle.reversal.specs.Runs.{Run}
use Rattle.reversal.specs.Chains.{absent, item, lower, Chain, plan_of}
use Rattle.reversal.specs.Units.{LargestReverse}
use Rattle.reversal.specs.WorkedUnits.{WorkedUnits}
use Rattle.reversal.specs.Computed.Units.{larger, largest_from}

-- ---- the larger of two numbers
module _ (a b : ℕ) where
  pub larger-is : (larger a b ≡ a) ⊎ (larger a b ≡ b)
  unfolding larger
  larger-is = pick_elim (λ (x : ℕ). (x ≡ a) ⊎ (x ≡ b)) (less a b) b a (λ _. inr refl) (λ _. inl refl)

  larger-left : a ≤ larger a b
  unfolding larger
  larger-left = pick_elim (λ (x : ℕ). a ≤ x) (less a b) b a (λ e. omega (arith, less_on a b e)) (λ _. omega arith)

  larger-right : b ≤ larger a b
  unfolding larger
  larger-right = pick_elim (λ (x : ℕ). b ≤ x) (less a b) b a (λ _. omega arith) (λ e. less_off a b e)

-- ---- the largest r
abbrev back : Item → ℕ
back x = length x.reverse

from_above : (a : ℕ) (xs : List Item) → a ≤ largest_from a xs
unfolding largest_from
from_above a [] = omega arith
from_above a (x ∷ xs) = omega (arith, larger-left a (back x), from_above (larger a (back x)) xs)

from_each : (a : ℕ) (xs : List Item) → Each (λ x. back x ≤ largest_from a xs) xs
unfolding largest_from
from_each a [] = tt
from_each a (x ∷ xs) =
    let b = larger a (back x) in
    (omega (arith, larger-right a (back x), from_above b xs), from_each b xs)

from_reached : (a : ℕ) (xs : List Item)
    → (largest_from a xs ≡ a) ⊎ ((i : ℕ) × (i < length xs) × (back (item xs i) ≡ largest_from a xs))
unfolding largest_from
from_reached a [] = inl refl
from_reached a (x ∷ xs) = go (from_reached b xs) (larger-is a r)
  where
    r : ℕ
    r = back x

    b : ℕ
    b = larger a r

    go : (largest_from b xs ≡ b) ⊎ ((i : ℕ) × (i < length xs) × (back (item xs i) ≡ largest_from b xs)) → (b ≡ a) ⊎ (b ≡ r)
        → (largest_from b xs ≡ a) ⊎ ((i : ℕ) × (i < suc (length xs)) × (back (item (x ∷ xs) i) ≡ largest_from b xs))
    go (inl e) (inl q) = inl (e ∙ q)
    go (inl e) (inr q) = inr (0, omega arith, sym (e ∙ q))
    go (inr (i, l, e)) q = inr (suc i, omega arith, e)

pub largest-is : (items : List Item) → LargestReverse items (largest_from 0 items)
largest-is items = record { none_above = from_each 0 items; reached = from_reached 0 items }

-- 02 leaves one number
module _ {items : List Item} {a b : ℕ} where
  not-above : LargestReverse items a → LargestReverse items b → a ≤ b
  not-above p q = go p.reached
    where
      go : (a ≡ 0) ⊎ ((i : ℕ) × (i < length items) × (back (item items i) ≡ a)) → a ≤ b
      go (inl e) = omega arith
      go (inr (i, l, e)) = omega (arith, each_at (λ x. back x ≤ b) items q.none_above i absent l)

pub largest_unique : {items : List Item} {a b : ℕ} → LargestReverse items a → LargestReverse items b → a ≡ b
largest_unique p q = omega (arith, not-above p q, not-above q p)

-- ---- chains from a point, of any run
module _ (d : Device) (r : Run) (items : List Item) (ok : Each (AllowedItem d) items) where
  some : (a : ℕ) → a < length items → 1 ≤ length (item items a).forward
  some a l = (each_at (AllowedItem d) items ok a absent l).some

  -- each leg takes the run back by one point at least
  pub legs-within : (xs : List ℕ) (j : ℕ) → Chain d r items j xs → length xs ≤ j
  legs-within [] j c = omega arith
  legs-within (a ∷ xs) j c = omega (arith, some a c.0, c.1.room, legs-within xs (lower items j a) c.2)

  -- and brings no more commands than the longest reverse has
  pub plan-within : (most : ℕ) → Each (λ x. length x.reverse ≤ most) items → (xs : List ℕ) (j : ℕ) → Chain d r items j xs
      → length (plan_of items xs) ≤ j * most
  plan-within most h [] j c = omega arith
  plan-within most h (a ∷ xs) j c =
      let k = lower items j a in
      let further : suc k * most ≤ j * most = mul-le-mul_right most (omega (arith, some a c.0, c.1.room)) in
      omega (
        arith,
        further,
        suc-mul k most,
        each_at (λ x. length x.reverse ≤ most) items h a absent c.0,
        length-append (item items a).reverse (plan_of items xs),
        plan-within most h xs k c.2,
      )

-- ---- the worked numbers
pub worked_units : WorkedUnits
unfolding present member pick
worked_units =
    record {
      each_item = refl;
      sum = refl;
      sum_dear = refl;
      largest_dear = record { none_above = (lit≤ tt, (lit≤ tt, tt)); reached = inr (1, lit< tt, refl) };
      largest = record { none_above = (lit≤ tt, (lit≤ tt, (lit≤ tt, (lit≤ tt, (lit≤ tt, tt))))); reached = inr (0, lit< tt, refl) };
      largest_none = record { none_above = tt; reached = inl refl };
    }
