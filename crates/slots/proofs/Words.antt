-- A slot that is fine, judged eight bytes at a time. Assumes nothing.
use mathlib.Core.Path.{◌≡◌, refl, sym, ap, ◌∙◌}
use mathlib.Core.Bool.{true, not}
use mathlib.Core.List.{List}
use Prim.Native.Nat.{ℕ, zero, suc, ◌+◌, ◌-◌, ◌*◌, ◌^◌, ◌≤◌, ◌<◌}
use native.Mathlib.Nat.{zero-add, add-zero, suc-add, pow-suc}
use native.Mathlib.Omega.{arith}
use borrow.Author.Tests.{ltb-true}
use lib.Pow.{pow-add}
use lib.ListN.{length, get_or, take, drop, length-drop}
use lib.Seq.{get_or-drop, get_or-take}
use Rattle.std.proofs.Common.{length-take-le}
use Rattle.base.specs.Lists.{Each}
use Rattle.base.specs.Masks.{clear_from}
use Rattle.base.proofs.Lists.{each_of}
use Rattle.base.proofs.Picks as P
use Rattle.octets.specs.Parts.{le, le_at, piece}
use Rattle.octets.proofs.Put.{length-piece, piece-take, piece-get}
use Rattle.book.specs.Limits.{counts_fine, all_below, fields_fine}
use Rattle.book.specs.Slots.{item_at, unused, slot_fine}
use Rattle.book.proofs.Fields.{all_of}
use Rattle.book.proofs.Limits.{counts_on}
use Rattle.slots.proofs.Laws.{k_is, r_is}

-- ---- a number below 2 ^ (8 * k) has zeros past its first k bytes
none_left : (j : ℕ) (s : List ℕ) (p : ℕ) → le (piece j s p) ≡ 0 → Each (λ b. b < 1) (piece j s p)
unfolding piece
none_left zero s p e = tt
none_left (suc j) s p e = (omega arith, none_left j s (suc p) (omega arith))

below_one : (x : ℕ) → x < 1 → x ≡ 0
below_one x h = omega arith

zeros-past : (k j : ℕ) (s : List ℕ) (p : ℕ) → le (piece (k + j) s p) < 256 ^ k → Each (λ b. b < 1) (piece j s (p + k))
unfolding piece
zeros-past zero j s p h = rw (add-zero p) (none_left j s p (rw (zero-add j) at (below_one _ h)))
zeros-past (suc k) j s p h =
    let e : suc p + k ≡ p + suc k = omega arith in
    let g : le (piece (suc (k + j)) s p) < 256 ^ k * 256 = rw (suc-add k j, pow-suc 256 k) at h in
    rw (← e) (zeros-past k j s (suc p) (omega arith))

bytes-power : (k : ℕ) → 2 ^ (8 * k) ≡ 256 ^ k
bytes-power zero = refl
bytes-power (suc k) = let e : 8 * suc k ≡ 8 * k + 8 = omega arith in rw (e, pow-add 2 (8 * k) 8, pow-suc 256 k, bytes-power k)

-- ---- the slot
module _ (n m : ℕ) (s : List ℕ) (a : ℕ) (room : 34 * a + 34 ≤ length s) where
  rest-zero : (k p w : ℕ) → k ≤ 8 → p + 8 ≤ length s → w ≡ le_at 8 s p → clear_from (8 * k) w ≡ true → all_below 1 (unused k s p) ≡ true
  unfolding clear_from
  rest-zero k p w h l e f =
      let all : k + (8 - k) ≡ 8 = omega arith in
      let low : le (piece 8 s p) < 256 ^ k =
      rw (← bytes-power k, piece-take 8 s p l, ← e) (ltb-true w (2 ^ (8 * k)) f) in
      all_of 1 (unused k s p) (zeros-past k (8 - k) s p (rw all low))

  used_below : (k p top : ℕ) → ((i : ℕ) → i < k → get_or s (p + i) 0 ≤ top) → top < m → all_below m (piece k s p) ≡ true
  used_below k p top h l =
      all_of m (piece k s p)
      (each_of (λ c. c < m) (piece k s p) 0 (λ i b.
      let j : i < k = rw (length-piece k s p) at b in
      let t = h i j in
      omega (arith, piece-get k s p i j)))

  -- a part of 16 bytes
  part_most : (p k top : ℕ) → k ≡ 16 → p + 16 ≤ length s → ((i : ℕ) → i < length (take k (drop p s)) → get_or (take k (drop p s)) i 0 ≤ top)
      → (i : ℕ) → i < 16 → get_or s (p + i) 0 ≤ top
  part_most p k top e h f i l =
      let size : length (take k (drop p s)) ≡ k = length-take-le k (drop p s) (omega (arith, length-drop p s)) in
      rw (← get_or-drop p s i 0, ← get_or-take k (drop p s) i 0 (omega arith)) (f i (omega arith))

  -- k, r and the command bytes are read, and judged
  pub words_fine : (k r top v w phi psi : ℕ) → k ≡ get_or s (34 * a) 0 → r ≡ get_or s (34 * a + 1) 0 → counts_fine k r ≡ true
      → (let l = take (34 * a + 18 - (34 * a + 2)) (drop (34 * a + 2) s) in (i : ℕ) → i < length l → get_or l i 0 ≤ top) → top < m → v ≡ le_at 8 s (34 * a + 2) → clear_from (8 * k) v ≡ true
      → w ≡ le_at 8 s (34 * a + 10) → clear_from (8 * r) w ≡ true → phi ≡ le_at 8 s (34 * a + 18) → clear_from n phi ≡ true
      → psi ≡ le_at 8 s (34 * a + 26) → clear_from n psi ≡ true → slot_fine n m s a ≡ true
  unfolding slot_fine fields_fine item_at
  words_fine k r top v w phi psi ek er counts largest below ev fv ew fw ep fp eq fq =
      let q = 34 * a in
      let most = part_most (34 * a + 2) (34 * a + 18 - (34 * a + 2)) top (omega arith) (omega arith) largest in
      let x = item_at s a in
      let (some, few, few_reverse) = counts_on k r counts in
      let lk = k_is s a k ek in
      let lr = r_is s a r er in
      let forward : all_below m x.forward ≡ true = used_below (get_or s q 0) (q + 2) top (λ i h. most i (omega arith)) below in
      let reverse : all_below m x.reverse ≡ true =
      used_below (get_or s (q + 1) 0) (q + 10) top
      (λ i h. let e : q + 10 + i ≡ q + 2 + (8 + i) = omega arith in rw e (most (8 + i) (omega arith))) below in
      let fields : fields_fine n m x ≡ true =
      sym (P.no _ _ _ _ (ap not forward) (P.no _ _ _ _ (ap not reverse)
      (P.no _ _ _ _ (ap not (ap (clear_from n) (sym ep) ∙ fp)) (P.no _ _ _ _ (ap not (ap (clear_from n) (sym eq) ∙ fq)) refl)))) in
      let unused-forward : all_below 1 (unused (length x.forward) s (q + 2)) ≡ true =
      rw (← lk) (rest-zero k (q + 2) v (omega arith) (omega arith) ev fv) in
      let unused-reverse : all_below 1 (unused (length x.reverse) s (q + 10)) ≡ true =
      rw (← lr) (rest-zero r (q + 10) w (omega arith) (omega arith) ew fw) in
      sym (P.less_no _ _ _ (length s) (q + 34) room
      (P.no _ _ _ _ (ap not (rw (lk, lr) at counts))
      (P.no _ _ _ _ (ap not fields) (P.no _ _ _ _ (ap not unused-forward) (sym unused-reverse)))))
