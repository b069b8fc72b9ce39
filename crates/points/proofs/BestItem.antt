-- The choice of an item at a point: each way through the loop over the items. Assumes nothing.
use mathlib.Core.Path.{◌≡◌, refl, sym, ap, ◌∙◌, subst}
use mathlib.Core.Bool.{Bool, true, false}
use mathlib.Core.List.{List, foldl}
use Prim.Native.Nat.{ℕ, zero, suc, ◌+◌, ◌-◌, ◌≤◌, ◌<◌}
use native.Mathlib.Nat.{add-zero, add-suc}
use native.Mathlib.Decide.{dec_lt}
use native.Mathlib.Numerals.{add-one}
use native.Mathlib.Omega.{arith}
use borrow.Author.Tests.{lt-ltb, le-ltb}
use lib.Dec.{leb, ltb, leb→le}
use lib.ListN.{length, get_or}
use Rattle.base.specs.Tests.{pick, both}
use Rattle.base.specs.Bounded.{least}
use Rattle.base.specs.Cardinality.{member, present}
use Rattle.base.proofs.Tests.{true_t, both_l}
use Rattle.base.proofs.Visiting.{gathered, gathered_is}
use Rattle.base.proofs.Bounded.{least-le}
use Rattle.reversal.specs.Reversal.{Item}
use Rattle.reversal.specs.Computed.Least.{Links, via}
use Rattle.points.specs.declared.Choice.{Choice}
use Rattle.points.specs.Links.{fits_at, Chosen}
use Rattle.points.specs.Rows.{cheaper}

-- an item that fits has room
pub fits-room : (x : Item) (s sets : List ℕ) (j : ℕ) → fits_at x s sets j ≡ true → length x.forward ≤ j
unfolding fits_at
fits-room x s sets j e =
    let k = length x.forward in
    leb→le k j (both_l (leb k j) (both _ (both _ _)) (true_t (fits_at x s sets j) e))

module _ (R : Links) (ns : List ℕ) (j : ℕ) where
  via-fit : (a k r x : ℕ) → R.fit a j ≡ true → k ≡ R.k a → r ≡ R.price a → x ≡ get_or ns (j - k) 0 → r + x ≡ via R ns j a
  unfolding via pick
  via-fit a k r x f p q e = rw (f, e, p, q)

  via-none : (a : ℕ) → R.fit a j ≡ false → via R ns j a ≡ R.top
  unfolding via pick
  via-none a f = rw f

  choice_start : Chosen R ns j 0 R.top 0
  unfolding least
  choice_start =
      record {
        least_is = refl;
        most = omega arith;
        within = omega arith;
        known = λ h. absurd (omega arith);
        here = λ h. absurd (omega arith);
        lowest = λ h. absurd (omega arith);
      }

  module _ {a number item : ℕ} (g : Chosen R ns j a number item) where
    -- a dearer way
    keeps : number ≤ via R ns j a → Chosen R ns j (a + 1) number item
    unfolding least
    keeps l =
        record {
          least_is = rw add-one (omega (arith, g.least_is));
          most = g.most;
          within = omega (arith, g.within);
          known = λ h. omega (arith, g.known h);
          here = g.here;
          lowest = g.lowest;
        }

    choice_out : R.fit a j ≡ false → Chosen R ns j (a + 1) number item
    choice_out f = keeps (omega (arith, via-none a f, g.most))

    -- item a fits, costs r, and leads to the x from its lower point
    module _ (k r x : ℕ) (fit : R.fit a j ≡ true) (p : k ≡ R.k a) (q : r ≡ R.price a) (e : x ≡ get_or ns (j - k) 0) where
      choice_kept : number ≤ r + x → Chosen R ns j (a + 1) number item
      choice_kept l = keeps (omega (arith, via-fit a k r x fit p q e))

      -- a cheaper way
      choice_taken : r + x < number → Chosen R ns j (a + 1) (r + x) a
      unfolding least
      choice_taken l =
          record {
            least_is = rw add-one (omega (arith, g.least_is, via-fit a k r x fit p q e));
            most = omega (arith, g.most);
            within = omega arith;
            known = λ h. omega arith;
            here = λ h. sym (via-fit a k r x fit p q e);
            lowest = λ h b m. omega (arith, least-le R.top (via R ns j) a b m, g.least_is);
          }

-- ---- the choice among the items of a row
module _ (ks prices ns : List ℕ) (j : ℕ) where
  pub cheaper_yes : (number item a r x : ℕ) → r ≡ get_or prices a 0 → x ≡ get_or ns (j - get_or ks a 0) 0 → r + x < number
      → record { number = r + x; item = a } ≡ cheaper ks prices ns j (record { number = number; item = item }) a
  unfolding cheaper pick
  cheaper_yes number item a r x p q l = rw (← p, ← q, lt-ltb (r + x) number l)

  pub cheaper_no : (number item a r x : ℕ) → r ≡ get_or prices a 0 → x ≡ get_or ns (j - get_or ks a 0) 0 → number ≤ r + x
      → record { number = number; item = item } ≡ cheaper ks prices ns j (record { number = number; item = item }) a
  unfolding cheaper pick
  cheaper_no number item a r x p q l = rw (← p, ← q, le-ltb (r + x) number l)

-- the row of the items that fit from point j, the numbers of their forward commands and their prices: the choice is the one among all items
module _ (R : Links) (ks prices ns : List ℕ) (j row : ℕ) (few : R.count ≤ 64) (fits : (b : ℕ) → member row b ≡ both (ltb b R.count) (R.fit b j))
    (ks_are : (b : ℕ) → b < R.count → get_or ks b 0 ≡ R.k b) (prices_are : (b : ℕ) → b < R.count → get_or prices b 0 ≡ R.price b) where
  abbrev step : Choice → ℕ → Choice
  step = cheaper ks prices ns j

  -- among the items below a
  unfoldable below : ℕ → Choice
  below zero = record { number = R.top; item = 0 }
  below (suc a) = pick (member row a) (step (below a) a) (below a)

  chosen_below : (a : ℕ) → a ≤ R.count → Chosen R ns j a (below a).number (below a).item
  unfolding below cheaper pick both
  chosen_below zero l = choice_start R ns j
  chosen_below (suc a) l = go (R.fit a j) refl (chosen_below a (omega arith))
    where
      known : a < R.count
      known = omega arith

      sum : ℕ
      sum = get_or prices a 0 + get_or ns (j - get_or ks a 0) 0

      go : (t : Bool) → R.fit a j ≡ t → Chosen R ns j a (below a).number (below a).item
          → Chosen R ns j (suc a) (below (suc a)).number (below (suc a)).item
      go false f g = rw (fits a, lt-ltb a R.count known, f, ← add-one a) (choice_out R ns j g f)
      go true f g = rw (fits a, lt-ltb a R.count known, f, ← add-one a) (cheap (dec_lt sum (below a).number))
        where
          cheap : Dec (sum < (below a).number)
              → Chosen R ns j (a + 1) (pick (ltb sum (below a).number) (record { number = sum; item = a }) (below a)).number
              (pick (ltb sum (below a).number) (record { number = sum; item = a }) (below a)).item
          cheap (yes y) = rw (lt-ltb sum (below a).number y) (choice_taken R ns j g _ _ _ f (ks_are a known) (prices_are a known) refl y)
          cheap (no n) =
              rw (le-ltb sum (below a).number (omega arith)) (choice_kept R ns j g _ _ _ f (ks_are a known) (prices_are a known) refl (omega arith))

  none_above : (x : ℕ) → below (R.count + x) ≡ below R.count
  unfolding below pick both
  none_above zero = ap below (add-zero R.count)
  none_above (suc x) =
      ap below (add-suc R.count x) ∙ rw (fits (R.count + x), le-ltb (R.count + x) R.count (omega arith)) (none_above x)

  whole : gathered step 64 (below 0) row ≡ below 64
  unfolding below
  whole = gathered_is step below row 64 (λ k l. refl)

  pub cheapest-chosen : let c = foldl step (record { number = R.top; item = 0 }) (present 64 row) in Chosen R ns j R.count c.number c.item
  unfolding below
  cheapest-chosen =
      let e : R.count + (64 - R.count) ≡ 64 = omega arith in
      subst (λ (c : Choice). Chosen R ns j R.count c.number c.item)
      (sym (whole ∙ ap below (sym e) ∙ none_above (64 - R.count))) (chosen_below R.count (omega arith))
