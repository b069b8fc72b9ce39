-- An item's record in a book's bytes: its fields, and the record after it. Assumes nothing.
use mathlib.Core.Path.{◌≡◌, refl, sym, ap, ◌∙◌}
use mathlib.Core.List.{List, ◌∷◌, ◌++◌, map, append_assoc}
use Prim.Native.Nat.{ℕ, ◌+◌, ◌^◌, ◌≤◌, ◌<◌}
use native.Mathlib.Numerals.{add-one}
use native.Mathlib.Omega.{arith}
use lib.ListN.{length, get_or, take, drop, length-drop, length-append, get_or-eq_default}
use lib.Seq.{drop-cons, drop-drop, get_or-drop, drop_at}
use Rattle.base.specs.Sets.{NoBitFrom}
use Rattle.base.proofs.Lists.{each_at}
use Rattle.reversal.specs.Reversal.{Item, AllowedItem}
use Rattle.reversal.specs.Chains.{absent, item}
use Rattle.octets.specs.Le.{bytes_le}
use Rattle.octets.specs.Parts.{le, le_at, piece}
use Rattle.octets.proofs.LeAt.{le-past}
use Rattle.octets.proofs.Put.{piece_at, length-piece}
use Rattle.book.specs.Book.{Book, AllowedBook, device_of, frame, framed, item_rec, bytes_of, items_of}
use Rattle.book.proofs.Fields.{mask_fits}
use Rattle.book.proofs.Bodies.{first-eight, past-eight, item_length}
use Rattle.book.proofs.Scanning.{length-frame}
use Rattle.items.specs.declared.Parts.{Parts}
use Rattle.items.specs.Items.{Begins, ItemStands, item_from, item_in, held_in, PartsAt, Placed}

-- ---- item x and then t stand from `at` on
module _ (s : List ℕ) (at : ℕ) (x : Item) (t : List ℕ) (e : drop at s ≡ frame (item_rec x) ++ t) where
  k_at : get_or s (at + 4) 0 ≡ length x.forward
  unfolding frame bytes_le
  k_at = rw (← get_or-drop at s 4 0, e)

  r_at : get_or s (at + 5) 0 ≡ length x.reverse
  unfolding frame bytes_le
  r_at = rw (← get_or-drop at s 5 0, e)

  abbrev tail : List ℕ
  tail = bytes_le 8 x.phi ++ (bytes_le 8 x.psi ++ t)

  forward_at : drop (at + 6) s ≡ x.forward ++ (x.reverse ++ tail)
  unfolding frame bytes_le
  forward_at = sym (drop-drop 6 at s) ∙ ap (λ (l : List ℕ). drop 6 l) e ∙ simp append_assoc

  reverse_at : (k : ℕ) → k ≡ length x.forward → drop (at + 6 + k) s ≡ x.reverse ++ tail
  reverse_at k h = sym (drop-drop k (at + 6) s) ∙ (ap (λ (l : List ℕ). drop k l) forward_at ∙ drop_at x.forward (x.reverse ++ tail) k (sym h))

  masks_at : (k r : ℕ) → k ≡ length x.forward → r ≡ length x.reverse → drop (at + 6 + k + r) s ≡ tail
  masks_at k r h g = sym (drop-drop r (at + 6 + k) s) ∙ (ap (λ (l : List ℕ). drop r l) (reverse_at k h) ∙ drop_at x.reverse tail r (sym g))

  psi_at : (p : ℕ) → drop p s ≡ tail → drop (p + 8) s ≡ bytes_le 8 x.psi ++ t
  psi_at p q = sym (drop-drop 8 p s) ∙ (ap (λ (l : List ℕ). drop 8 l) q ∙ past-eight x.phi (bytes_le 8 x.psi ++ t))

  rest_at : (p : ℕ) → drop p s ≡ tail → drop (p + 16) s ≡ t
  rest_at p q =
      let n : p + 16 ≡ p + 8 + 8 = omega arith in
      rw n (sym (drop-drop 8 (p + 8) s) ∙ (ap (λ (l : List ℕ). drop 8 l) (psi_at p q) ∙ past-eight x.psi t))

  pub inside : at + 22 + length x.forward + length x.reverse ≤ length s
  inside =
      omega (arith, length-drop at s, ap length e, length-append (frame (item_rec x)) t, length-frame (item_rec x), item_length x)

-- ---- the item of a book
module _ {s : List ℕ} {b : Book} {i at : ℕ} (h : ItemStands s b i at) where
  -- it, and what follows it
  stands : drop at s ≡ frame (item_rec (item (items_of b) i)) ++ framed (map item_rec (drop (i + 1) (items_of b)))
  stands =
      let e : drop i (items_of b) ≡ item (items_of b) i ∷ drop (i + 1) (items_of b) = rw add-one (drop-cons (items_of b) i absent h.known) in
      h.begins ∙ ap (λ (l : List Item). framed (map item_rec l)) e

  pub allowed : AllowedItem (device_of b) (item (items_of b) i)
  allowed = each_at (AllowedItem (device_of b)) (items_of b) h.allowed.each_item i absent h.known

  pub in_book : at + 22 ≤ length s
  in_book = omega (arith, inside s at (item (items_of b) i) (framed (map item_rec (drop (i + 1) (items_of b)))) stands)

same_item : (x : Item) {forward reverse : List ℕ} {phi psi : ℕ} → forward ≡ x.forward → reverse ≡ x.reverse → phi ≡ x.phi → psi ≡ x.psi
    → record { forward = forward; reverse = reverse; phi = phi; psi = psi } ≡ x
same_item x f r p q = rw (f, r, p, q)

module _ (s : List ℕ) (at k r : ℕ) (ek : k ≡ get_or s (at + 4) 0) (er : r ≡ get_or s (at + 5) 0) where
  module _ {b : Book} {i : ℕ} (h : ItemStands s b i at) where
    abbrev x : Item
    x = item (items_of b) i

    abbrev t : List ℕ
    t = framed (map item_rec (drop (i + 1) (items_of b)))

    hk : k ≡ length x.forward
    hk = ek ∙ k_at s at x t (stands h)

    hr : r ≡ length x.reverse
    hr = er ∙ r_at s at x t (stands h)

    forward : drop (at + 6) s ≡ x.forward ++ (x.reverse ++ tail s at x t (stands h))
    forward = forward_at s at x t (stands h)

    reverse : drop (at + 6 + k) s ≡ x.reverse ++ tail s at x t (stands h)
    reverse = reverse_at s at x t (stands h) k hk

    masks : drop (at + 6 + k + r) s ≡ tail s at x t (stands h)
    masks = masks_at s at x t (stands h) k r hk hr

    small : (w : ℕ) → NoBitFrom b.n w → w < 256 ^ 8
    small w f = mask_fits b.n w h.allowed.device.n_high f

    next : Begins s b (i + 1) (at + 6 + k + r + 16)
    next = rest_at s at x t (stands h) (at + 6 + k + r) masks

    -- the item's parts, where the counts say
    forward-is : piece k s (at + 6) ≡ x.forward
    forward-is = piece_at s (at + 6) k x.forward _ forward (sym hk)

    reverse-is : piece r s (at + 6 + k) ≡ x.reverse
    reverse-is = piece_at s (at + 6 + k) r x.reverse _ reverse (sym hr)

    phi_is : le_at 8 s (at + 6 + k + r) ≡ x.phi
    phi_is = ap (λ (l : List ℕ). le (take 8 l)) masks ∙ first-eight x.phi (bytes_le 8 x.psi ++ t) (small x.phi (allowed h).phi_states)

    psi_is : le_at 8 s (at + 6 + k + r + 8) ≡ x.psi
    psi_is =
        ap (λ (l : List ℕ). le (take 8 l)) (psi_at s at x t (stands h) (at + 6 + k + r) masks)
        ∙ first-eight x.psi t (small x.psi (allowed h).psi_states)

    whole : item_from s (at + 6) k r ≡ x
    whole = same_item x forward-is reverse-is phi_is psi_is

  held : held_in s (record { k = k; r = r; forward = at + 6; reverse = at + 6 + k; masks = at + 6 + k + r; next = at + 6 + k + r + 16 }) ≡ item_in s at
  unfolding item_in
  held = rw (ek, er)

  pub read_parts : k < 256 → r < 256
      → PartsAt s at (record { k = k; r = r; forward = at + 6; reverse = at + 6 + k; masks = at + 6 + k + r; next = at + 6 + k + r + 16 })
  read_parts lk lr =
      record { k_byte = lk; r_byte = lr; past = λ l. omega arith; held = held; inside = (omega arith, omega arith); next = next }

-- the item that stands there is the book's
pub item_is : {s : List ℕ} {b : Book} {i at : ℕ} → ItemStands s b i at → item_in s at ≡ item (items_of b) i
unfolding item_in
item_is {s} {b} {i} {at} h = whole s at (get_or s (at + 4) 0) (get_or s (at + 5) 0) refl refl h

-- and its counts are those that were read
module _ {s : List ℕ} {at : ℕ} {p : Parts} (c : PartsAt s at p) where
  pub k-held : p.k ≡ length (item_in s at).forward
  k-held = sym (length-piece p.k s p.forward) ∙ ap (λ (x : Item). length x.forward) c.held

  pub r_held : p.r ≡ length (item_in s at).reverse
  r_held = sym (length-piece p.r s p.reverse) ∙ ap (λ (x : Item). length x.reverse) c.held

-- and the items at a book's places are its items
pub placed_items : {s places : List ℕ} → Placed s places → (b : Book) → AllowedBook b → bytes_of b ≡ s
    → (i : ℕ) → i < length (items_of b) → item_in s (get_or places i 0) ≡ item (items_of b) i
placed_items p b a e i h = item_is (record { allowed = a; bytes = e; known = h; begins = p.begins b a e i h })

-- ---- past the end
abbrev none : List ℕ → Parts
none s = record { k = 0; r = 0; forward = 0; reverse = 0; masks = length s; next = 0 }

none_from : (s : List ℕ) (p k r : ℕ) → length s ≤ p → k ≡ 0 → r ≡ 0 → held_in s (none s) ≡ item_from s p k r
unfolding piece
none_from s p k r l ek er =
    rw (
      ek,
      er,
      ← le-past 8 s (length s) (omega arith),
      ← le-past 8 s (length s + 8) (omega arith),
      ← le-past 8 s (p + 0 + 0) (omega arith),
      ← le-past 8 s (p + 0 + 0 + 8) (omega arith),
    )

pub parts_none : (s : List ℕ) (at : ℕ) → length s ≤ at → PartsAt s at (none s)
unfolding item_in
parts_none s at l =
    let k-past : length s ≤ at + 4 = omega arith in
    let r-past : length s ≤ at + 5 = omega arith in
    record {
      k_byte = omega arith;
      r_byte = omega arith;
      past = λ h. absurd (omega arith);
      held =
          none_from s (at + 6) (get_or s (at + 4) 0) (get_or s (at + 5) 0) (omega arith)
          (get_or-eq_default s 0 k-past) (get_or-eq_default s 0 r-past);
      inside = (omega arith, omega arith);
      next = λ h. absurd (omega (arith, in_book h));
    }
