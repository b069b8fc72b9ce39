-- The choice at a point, once all items are listed. Assumes nothing.
use Rattle.std.proofs.Common.{◌≡◌, true, List, ℕ, ◌+◌, ◌-◌, ◌≤◌, ◌<◌, sym, ◌∙◌, get_or, set}
use lib.Dec.{T, ltb, ltb→lt}
use native.Mathlib.Omega.{arith}
use mathlib.Core.Path.{subst}
use Rattle.base.specs.Tests.{both}
use Rattle.base.specs.Cardinality.{member}
use Rattle.base.proofs.Tests.{true_t, T_true, both_l, both_r}
use Rattle.points.specs.declared.Choice.{Choice}
use Rattle.points.specs.Items.{Items}
use Rattle.points.specs.Links.{links_of, Chosen, Numbered}
use Rattle.points.specs.Rows.{cheapest}
use Rattle.points.proofs.Rows.{Listed}
use Rattle.points.proofs.BestItem.{fits-room, cheapest-chosen}
use Rattle.points.proofs.Numbers.{numbered_next}

module _ (F : Items) (ws s sets : List ℕ) (count i a : ℕ) {rows ks prices : List ℕ} (few : count ≤ 64)
    (listed : Listed (links_of F ws s sets count) i a rows ks prices) (all : a ≡ count) where
  g : Listed (links_of F ws s sets count) i count rows ks prices
  g = subst (λ (x : ℕ). Listed (links_of F ws s sets count) i x rows ks prices) all listed

  module _ (ns : List ℕ) (j : ℕ) (l : j ≤ i) where
    pub choice-is : let r = cheapest ks prices ns j (get_or rows j 0) in Chosen (links_of F ws s sets count) ns j count r.number r.item
    choice-is = cheapest-chosen (links_of F ws s sets count) ks prices ns j (get_or rows j 0) few (g.fits_are j l) g.ks_are g.prices_are

    pub room : (b : ℕ) → member (get_or rows j 0) b ≡ true → get_or ks b 0 ≤ j
    room b e =
        let R = links_of F ws s sets count in
        let both_hold : T (both (ltb b count) (R.fit b j)) = true_t _ (sym (g.fits_are j l b) ∙ e) in
        let h : b < count = ltb→lt b count (both_l _ (R.fit b j) both_hold) in
        omega (arith, g.ks_are b h, fits-room (F b) s sets j (T_true _ (both_r (ltb b count) _ both_hold)))

    -- the number and the item of the point, after those below
    pub number-next : 1 ≤ j → j ≤ 32 → {items : List ℕ} (r : Choice) → Numbered (links_of F ws s sets count) (j - 1) ns items
        → r ≡ cheapest ks prices ns j (get_or rows j 0) → Numbered (links_of F ws s sets count) j (set ns j r.number) (set items j r.item)
    number-next low most {items} r n e =
        let R = links_of F ws s sets count in
        let up : j - 1 + 1 ≡ j = omega arith in
        subst (λ (x : ℕ). Numbered R x (set ns x r.number) (set items x r.item)) up
        (numbered_next R (λ b h. (g.ks_fair b h).0) (j - 1) ns items r.number r.item (omega arith) n
        (subst (λ (x : ℕ). Chosen R ns x count r.number r.item) (sym up)
        (subst (λ (x : Choice). Chosen R ns j count x.number x.item) (sym e) choice-is)))
