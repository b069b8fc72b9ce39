-- The legs that are laid out: those of the lent bytes; of a chain's, a line has room for each, and their commands are the plan. Assumes nothing.
use mathlib.Core.Path.{◌≡◌, refl, sym, ap, ap₂, ◌∙◌}
use mathlib.Core.List.{List, [], ◌∷◌, ◌++◌}
use Prim.Native.Nat.{ℕ, ◌*◌, ◌≤◌, ◌<◌}
use native.Mathlib.Omega.{arith}
use lib.ListN.{length, take}
use Rattle.base.specs.Lists.{Each}
use Rattle.base.proofs.Lists.{each_at}
use Rattle.base.proofs.Parts.{each_map}
use Rattle.reversal.specs.Reversal.{Item, AllowedItem}
use Rattle.reversal.specs.Runs.{Run, AllowedRun, last}
use Rattle.reversal.specs.Chains.{Leg, absent, item, lower, Chain, plan_of, legs_of}
use Rattle.book.specs.Book.{Book, device_of, AllowedBook, items_for}
use Rattle.book.proofs.Unique.{one-book}
use Rattle.checker.specs.Checks.{AcceptedBook}
use Rattle.assembly.specs.Lent.{legs_bytes}
use Rattle.assembly.proofs.Exactly.{chain-most, length-legs}
use Rattle.assembly.proofs.LegsRead.{one-legs}
use Rattle.paper.specs.declared.Paged.{Paged}
use Rattle.paper.specs.Layout.{joined, reverse_of, page_of}
use Rattle.paper.specs.Pages.{Laid}
use Rattle.paper.proofs.ReadBack.{commands_of, AllFit, PageBack, page_back}

-- "Its plan is their reverse commands in that order."
pub legs-plan : (items : List Item) (xs : List ℕ) (j : ℕ) → commands_of (reverse_of items) (legs_of items j xs) ≡ plan_of items xs
unfolding joined
legs-plan items [] j = refl
legs-plan items (a ∷ xs) j = ap (λ (cs : List ℕ). (item items a).reverse ++ cs) (legs-plan items xs (lower items j a))

-- what is laid out is fixed by the book's bytes and those of the legs
pub one-text : {book : List ℕ} {r : Paged} {legs page page' : List ℕ} (d : Laid book r legs page page') {b : Book} → AcceptedBook book b
    → (ls : List Leg) → take (3 * r.assembly.legs) legs ≡ legs_bytes ls → page_of (items_for d.the_book) d.legs ≡ page_of (items_for b) ls
one-text d {b} ok ls e =
    ap₂ (λ (x : Book) (y : List Leg). page_of x.items y)
    (one-book d.the_book b d.accepted.allowed ok.allowed (d.accepted.bytes ∙ sym ok.bytes))
    (one-legs d.legs ls (sym d.legs_are ∙ e))

module _ (b : Book) (ok : AllowedBook b) (u : Run) (fine : AllowedRun (device_of b) u) where
  abbrev items : List Item
  items = items_for b

  -- each has the number of an item
  pub numbers-known : (xs : List ℕ) (j : ℕ) → Chain (device_of b) u items j xs → Each (λ l. l.number < length items) (legs_of items j xs)
  numbers-known [] j c = tt
  numbers-known (a ∷ xs) j c = (c.0, numbers-known xs (lower items j a) c.2)

  legs-fit : (xs : List ℕ) (j : ℕ) → j ≤ 32 → Chain (device_of b) u items j xs → AllFit (reverse_of items) (legs_of items j xs)
  legs-fit [] j h c = tt
  legs-fit (a ∷ xs) j h c =
      let x = each_at (AllowedItem (device_of b)) items ok.each_item a absent c.0 in (
        record {
          number = omega (arith, c.0, ok.few);
          upper = omega arith;
          lower = omega arith;
          few = x.reverse_most;
          each = each_map (λ y k. omega (arith, ok.device.m_high)) (item items a).reverse x.reverse_commands;
        },
        legs-fit xs (lower items j a) (omega arith) c.2,
      )

  -- the page of a chain, taken apart
  pub chain_back : (xs : List ℕ) → Chain (device_of b) u items (last u) xs → PageBack (reverse_of items) 1 (legs_of items (last u) xs)
  chain_back xs c =
      page_back (reverse_of items) (legs_of items (last u) xs) 1
      (omega (arith, length-legs items xs (last u), chain-most (device_of b) u items ok.each_item xs (last u) c, fine.short))
      (legs-fit xs (last u) fine.short c)

  pub chain-short : (xs : List ℕ) → Chain (device_of b) u items (last u) xs → length (page_of items (legs_of items (last u) xs)) ≤ 1312
  chain-short xs c =
      omega (arith, (chain_back xs c).long, length-legs items xs (last u), chain-most (device_of b) u items ok.each_item xs (last u) c, fine.short)
