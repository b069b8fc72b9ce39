-- A slot read and stored part by part. Assumes nothing.
use mathlib.Core.Path.{◌≡◌, refl, sym, ap, ◌∙◌, ap₂}
use mathlib.Core.List.{List, [], ◌∷◌, ◌++◌, append_assoc, append-nil}
use Prim.Native.Nat.{ℕ, zero, suc, min, ◌+◌, ◌*◌, ◌/◌, ◌%◌, ◌≤◌, ◌<◌, ◌-◌}
use native.Mathlib.Decide.{dec_lt}
use native.Mathlib.Omega.{arith}
use lib.ListN.{length, get_or, set, take, drop, length-append, length-drop, drop_of_length-le}
use Rattle.std.proofs.lemmas.List.{take_rest}
use lib.Seq.{sets}
use Rattle.base.specs.Lists.{Bytes}
use Rattle.reversal.specs.Reversal.{Item}
use Rattle.reversal.specs.Chains.{item}
use Rattle.octets.specs.Le.{bytes_le}
use Rattle.octets.specs.Parts.{piece, le_at}
use Rattle.octets.proofs.Le.{length-bytes_le}
use Rattle.octets.proofs.Put.{sets_past, sets_part, first, then, length-piece, piece-get, Wrote, over, piece_split, bytes-piece}
use Rattle.book.specs.Book.{Book, device_of, items_of}
use Rattle.book.specs.Lent.{padded, slot_of}
use Rattle.book.specs.Slots.{item_at}
use Rattle.book.proofs.Slots.{length-padded, length-slot}
use Rattle.items.specs.declared.Parts.{Parts}
use Rattle.items.specs.Items.{held_in, ItemStands, PartsAt}
use Rattle.items.proofs.Laws.{allowed, item_is, k-held, r_held}
use Rattle.slots.specs.Filled.{SlotFilled}
use Rattle.slots.specs.Stored.{parts_of, HasCounts}

-- ---- the fields of the item in slot a
module _ (s : List ℕ) (a : ℕ) where
  pub k_is : (r : ℕ) → r ≡ get_or s (34 * a) 0 → r ≡ length (item_at s a).forward
  unfolding item_at
  k_is r e = e ∙ sym (length-piece _ s (34 * a + 2))

  pub r_is : (r : ℕ) → r ≡ get_or s (34 * a + 1) 0 → r ≡ length (item_at s a).reverse
  unfolding item_at
  r_is r e = e ∙ sym (length-piece _ s (34 * a + 10))

  pub reverse_is : (x r : ℕ) → r ≡ get_or s (34 * a + 10 + x) 0 → x < length (item_at s a).reverse → r ≡ get_or (item_at s a).reverse x 0
  unfolding item_at
  reverse_is x r e h =
      let k = get_or s (34 * a + 1) 0 in
      e ∙ sym (piece-get k s (34 * a + 10) x (omega (arith, length-piece k s (34 * a + 10))))

-- ---- its commands and masks, stored one after the other
module _ (s : List ℕ) (b : Bytes s) (a k r : ℕ) (c : HasCounts s a k r) (d₀ d₁ d₂ d₃ d₄ : List ℕ) where
  eight : (n p : ℕ) → n ≤ 8 → p + 8 ≤ length s → bytes_le 8 (le_at 8 s p) ≡ piece n s p ++ piece (8 - n) s (p + n)
  eight n p h l = bytes-piece 8 s b p l ∙ piece_split n (8 - n) 8 s p (p + n) (omega arith) refl

  pub parts_put : (v w phi psi : ℕ) → v ≡ le_at 8 s (34 * a + 2) → w ≡ le_at 8 s (34 * a + 10) → phi ≡ (item_at s a).phi
      → psi ≡ (item_at s a).psi → d₁ ≡ sets d₀ 0 (bytes_le 8 v) → d₂ ≡ sets d₁ k (bytes_le 8 w) → d₃ ≡ sets d₂ (k + r) (bytes_le 8 phi)
      → d₄ ≡ sets d₃ (k + r + 8) (bytes_le 8 psi) → d₄ ≡ sets d₀ 0 (parts_of (item_at s a))
  unfolding item_at parts_of
  parts_put v w phi psi ev ew ep eq e₁ e₂ e₃ e₄ =
      let q = 34 * a in
      let K = get_or s q 0 in
      let R = get_or s (q + 1) 0 in
      let ek : k ≡ K = c.forward ∙ length-piece K s (q + 2) in
      let er : r ≡ R = c.reverse ∙ length-piece R s (q + 10) in
      let room = c.room in
      let few = c.few in
      let few_reverse = c.few_reverse in
      let f = piece K s (q + 2) in
      let g = piece (8 - K) s (q + 2 + K) in
      let x = piece R s (q + 10) in
      let y = piece (8 - R) s (q + 10 + R) in
      let lf = length-piece K s (q + 2) in
      let lg = length-piece (8 - K) s (q + 2 + K) in
      let lx = length-piece R s (q + 10) in
      let ly = length-piece (8 - R) s (q + 10 + R) in
      let one : Wrote d₀ 0 (f ++ g) d₁ =
      first d₀ 0 (f ++ g) (e₁ ∙ ap (sets d₀ 0) (ap (bytes_le 8) ev ∙ eight K (q + 2) (omega arith) (omega arith))) in
      let two : Wrote d₀ 0 (f ++ (x ++ y)) d₂ =
      over f g one k (x ++ y) (omega arith) (omega (arith, length-append x y))
      (e₂ ∙ ap (sets d₁ k) (ap (bytes_le 8) ew ∙ eight R (q + 10) (omega arith) (omega arith))) in
      let both : Wrote d₀ 0 (f ++ x ++ y) d₂ = first d₀ 0 (f ++ x ++ y) (two.is ∙ ap (sets d₀ 0) (sym (append_assoc f x y))) in
      let three : Wrote d₀ 0 (f ++ x ++ bytes_le 8 phi) d₃ =
      over (f ++ x) y both (k + r) (bytes_le 8 phi) (omega (arith, length-append f x)) (omega (arith, length-bytes_le 8 phi)) e₃ in
      (then three (k + r + 8) (bytes_le 8 psi) (omega (arith, length-append (f ++ x) (bytes_le 8 phi), length-append f x, length-bytes_le 8 phi)) e₄).is
      ∙ ap₂ (λ (i j : ℕ). sets d₀ 0 (f ++ x ++ bytes_le 8 i ++ bytes_le 8 j)) ep eq

-- ---- a slot stored
-- the slot of an item whose commands stand in s: counts k and r and the forward commands at p, then the reverse commands at p and the masks
unfoldable pub head_from : List ℕ → ℕ → ℕ → ℕ → List ℕ
head_from s k r p = k ∷ r ∷ padded (piece k s p)

unfoldable pub tail_from : List ℕ → ℕ → ℕ → ℕ → ℕ → List ℕ
tail_from s r p phi psi = padded (piece r s p) ++ (bytes_le 8 phi ++ bytes_le 8 psi)

counts_put : (k r : ℕ) → k ≤ 8 → r ≤ 8 → bytes_le 2 (k + 256 * r) ≡ k ∷ r ∷ []
unfolding bytes_le
counts_put k r h l =
    let e : (k + 256 * r) % 256 ≡ k = omega arith in
    let f : (k + 256 * r) / 256 ≡ r = omega arith in
    let g : r % 256 ≡ r = omega arith in
    rw (e, f, g)

module _ (s : List ℕ) (r p q v : ℕ) (d₀ d₁ d₂ : List ℕ) where
  pub head_put : (k : ℕ) → k ≤ 8 → r ≤ 8 → bytes_le 8 v ≡ padded (piece k s p) → d₁ ≡ sets d₀ q (bytes_le 2 (k + 256 * r)) → d₂ ≡ sets d₁ (q + 2) (bytes_le 8 v)
      → d₂ ≡ sets d₀ q (head_from s k r p)
  unfolding head_from
  head_put k h g e e₁ e₂ =
      (then (first d₀ q (k ∷ r ∷ []) (e₁ ∙ ap (sets d₀ q) (counts_put k r h g))) (q + 2) (padded (piece k s p)) refl (e₂ ∙ ap (sets d₁ (q + 2)) e)).is

  pub tail_put : (phi psi : ℕ) (d₃ : List ℕ) → bytes_le 8 v ≡ padded (piece r s p) → d₁ ≡ sets d₀ q (bytes_le 8 v) → d₂ ≡ sets d₁ (q + 8) (bytes_le 8 phi)
      → d₃ ≡ sets d₂ (q + 16) (bytes_le 8 psi) → d₃ ≡ sets d₀ q (tail_from s r p phi psi)
  unfolding tail_from
  tail_put phi psi d₃ e e₁ e₂ e₃ =
      (then (then (first d₀ q (bytes_le 8 v) e₁) (q + 8) (bytes_le 8 phi) (omega (arith, length-bytes_le 8 v)) e₂) (q + 16) (bytes_le 8 psi)
      (omega (arith, length-append (bytes_le 8 v) (bytes_le 8 phi), length-bytes_le 8 v, length-bytes_le 8 phi)) e₃).is
      ∙ ap (sets d₀ q) row
    where
      row : (bytes_le 8 v ++ bytes_le 8 phi) ++ bytes_le 8 psi ≡ padded (piece r s p) ++ (bytes_le 8 phi ++ bytes_le 8 psi)
      row = append_assoc (bytes_le 8 v) (bytes_le 8 phi) (bytes_le 8 psi) ∙ ap (λ (t : List ℕ). t ++ (bytes_le 8 phi ++ bytes_le 8 psi)) e

-- ---- the contract of `fill`
module _ {s : List ℕ} {at : ℕ} {p : Parts} (o : PartsAt s at p) (slots : List ℕ) (a : ℕ) where
  -- no item stands there
  pub none_filled : (p.k ≤ 8 → p.r ≤ 8 → ⊥) → SlotFilled s at slots a slots p.next
  none_filled n =
      record {
        past = o.past;
        slot =
            λ h.
            let x = allowed h in
            let k = k-held o ∙ ap (λ (y : Item). length y.forward) (item_is h) in
            let r = r_held o ∙ ap (λ (y : Item). length y.reverse) (item_is h) in absurd (n (omega (arith, x.most)) (omega (arith, x.reverse_most)));
        next = o.next;
      }

  -- its slot is that of the item whose parts stand there
  module _ (phi psi : ℕ) (is : phi ≡ (held_in s p).phi) (is' : psi ≡ (held_in s p).psi) (d slots' : List ℕ) (low : p.k ≤ 8)
      (e : d ≡ sets slots (34 * a) (head_from s p.k p.r p.forward))
      (f : slots' ≡ sets d (34 * a + 10) (tail_from s p.r p.reverse phi psi)) where
    stored : slots' ≡ sets slots (34 * a) (head_from s p.k p.r p.forward ++ tail_from s p.r p.reverse phi psi)
    unfolding head_from
    stored =
        let l = length-padded (piece p.k s p.forward) (omega (arith, length-piece p.k s p.forward)) in
        (then (first slots (34 * a) (head_from s p.k p.r p.forward) e) (34 * a + 10) _ (omega arith) f).is

    slot_from : {b : Book} {i : ℕ} → ItemStands s b i at → head_from s p.k p.r p.forward ++ tail_from s p.r p.reverse phi psi ≡ slot_of (item (items_of b) i)
    unfolding head_from tail_from
    slot_from h =
        let held = o.held ∙ item_is h in
        rw (
          ap (λ (x : Item). x.forward) held,
          ap (λ (x : Item). x.reverse) held,
          k-held o,
          r_held o,
          item_is h,
          is,
          is',
          ap (λ (x : Item). x.phi) held,
          ap (λ (x : Item). x.psi) held,
        )

    pub item-filled : SlotFilled s at slots a slots' p.next
    item-filled = record { past = o.past; slot = λ h. stored ∙ ap (sets slots (34 * a)) (slot_from h); next = o.next }

-- ---- a slot stored in the rest of the row
sets-cons : (x : ℕ) (l : List ℕ) (i : ℕ) (xs : List ℕ) → sets (x ∷ l) (suc i) xs ≡ x ∷ sets l i xs
sets-cons x l i [] = refl
sets-cons x l i (v ∷ xs) = sets-cons x (set l i v) (suc i) xs

sets-rest : (l : List ℕ) (i : ℕ) (xs : List ℕ) → i ≤ length l → take i l ++ sets (drop i l) 0 xs ≡ sets l i xs
sets-rest [] zero xs h = refl
sets-rest [] (suc i) xs h = absurd (omega arith)
sets-rest (x ∷ l) zero xs h = refl
sets-rest (x ∷ l) (suc i) xs h = ap (λ (t : List ℕ). x ∷ t) (sets-rest l i xs (omega arith)) ∙ sym (sets-cons x l i xs)

stored-in_rest : (l rest : List ℕ) (p i k : ℕ) (xs : List ℕ) → i ≡ min p (length l) → k ≡ length l - i → rest ≡ sets (take k (drop i l)) 0 xs
    → take i l ++ (rest ++ drop k (drop i l)) ≡ sets l p xs
stored-in_rest l rest p i k xs m n e =
    let whole : take k (drop i l) ≡ drop i l = rw n (take_rest l i) in
    let none : drop k (drop i l) ≡ [] = drop_of_length-le (drop i l) {i = k} (omega (arith, length-drop i l)) in
    rw (e, whole, none, append-nil (sets (drop i l) 0 xs)) (sets-rest l i xs (omega arith) ∙ go (dec_lt p (length l)))
  where
    go : Dec (p < length l) → sets l i xs ≡ sets l p xs
    go (yes h) = let q : i ≡ p = omega arith in rw q
    go (no h) = sets_past l i xs (omega arith) ∙ sym (sets_past l p xs (omega arith))

pub filled-in_rest : {s slots rest : List ℕ} {at a r i k : ℕ} → SlotFilled s at (take k (drop i slots)) 0 rest r → i ≡ min (34 * a) (length slots)
    → k ≡ length slots - i → SlotFilled s at slots a (take i slots ++ (rest ++ drop k (drop i slots))) r
filled-in_rest {slots = slots} {rest = rest} {a = a} {i = i} {k = k} o m n =
    record {
      past = o.past;
      slot = λ {b} {i = j} h. stored-in_rest slots rest (34 * a) i k (slot_of (item (items_of b) j)) m n (o.slot h);
      next = o.next;
    }

-- ---- and in a part of the row that is the whole slot
pub filled-whole : {s slots part : List ℕ} {at a r i k : ℕ} → SlotFilled s at (take k (drop i slots)) 0 part r → i ≡ 34 * a → k ≡ 34
    → i + k ≤ length slots → SlotFilled s at slots a (take i slots ++ (part ++ drop k (drop i slots))) r
filled-whole {slots = slots} {part = part} {i = i} {k = k} o e n room =
    record {
      past = o.past;
      slot = λ {b} {i = j} h.
          let x = item (items_of b) j in
          sets_part slots part i k (slot_of x) room (omega (arith, length-slot (device_of b) x (allowed h))) (o.slot h)
          ∙ ap (λ (p : ℕ). sets slots p (slot_of x)) e;
      next = o.next;
    }
