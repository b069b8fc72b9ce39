-- What is read where an item's place says is the item with that number. Assumes nothing.
use mathlib.Core.Path.{◌≡◌, ap, ◌∙◌}
use mathlib.Core.List.{List}
use Prim.Native.Nat.{ℕ}
use lib.ListN.{length, get_or}
use Rattle.items.specs.declared.Parts.{Parts}
use Rattle.items.specs.Items.{item_in, held_in, PartsAt}
use Rattle.items.proofs.Laws.{k-held, r_held}
use Rattle.points.specs.Items.{k_of, recorded}

module _ (book places : List ℕ) (a : ℕ) {at : ℕ} {p : Parts} (e : at ≡ get_or places a 0) (c : PartsAt book at p) where
  pub item-read : held_in book p ≡ recorded book places a
  item-read = c.held ∙ ap (item_in book) e

  pub k-read : p.k ≡ k_of (recorded book places) a
  k-read = k-held c ∙ ap (λ (q : ℕ). length (item_in book q).forward) e

  pub r_read : p.r ≡ length (recorded book places a).reverse
  r_read = r_held c ∙ ap (λ (q : ℕ). length (item_in book q).reverse) e
