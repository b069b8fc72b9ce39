-- The parts of a record are the record; the records are the book. Assumes nothing.
use mathlib.Core.Path.{◌≡◌, refl, sym, ap, ◌∙◌}
use mathlib.Core.Bool.{true, false}
use mathlib.Core.List.{List, [], ◌++◌, map, append_assoc, append-nil}
use Prim.Native.Nat.{ℕ, ◌+◌, ◌*◌, ◌<◌, ◌≤◌}
use native.Mathlib.Nat.{mul-le-mul, mul-le-mul_right, suc-mul}
use native.Mathlib.Numerals.{add-one}
use native.Mathlib.Omega.{arith}
use lib.ListN.{length, take, drop, length-append}
use lib.Seq.{sets, length-sets}
use Rattle.octets.proofs.Put.{sets_part, sets_append}
use Rattle.reversal.specs.Reversal.{Item}
use Rattle.octets.specs.Le.{bytes_le}
use Rattle.octets.proofs.Le.{byte_one, length-bytes_le}
use Rattle.octets.specs.Parts.{piece}
use Rattle.book.specs.Book.{bytes_of, frame, framed, device_rec, two_bytes, weights_rec, all_one, weights_recs, move_rec, item_rec}
use Rattle.book.specs.Lent.{Lent}
use Rattle.book.specs.Buffers.{moves_from, items_from, book_from}
use Rattle.book.proofs.Bodies.{weights_length, move_length, item_length}
use Rattle.book.proofs.Weights.{none_of_ones, one_of_others}
use Rattle.book.proofs.Scanning.{length-frame, framed-append}
use Rattle.slots.specs.Stored.{parts_of}
use Rattle.writer.specs.Records.{move, moves_bytes, items_bytes, item_head}

-- ---- device and move
pub device_record : (n m : ℕ) → n < 256 → m < 256 → bytes_le 2 2 ++ bytes_le 2 1 ++ bytes_le 1 n ++ bytes_le 1 m ≡ frame (device_rec n m)
unfolding frame
device_record n m h j = rw (byte_one n, byte_one m) (simp append_assoc)

pub move_record : (a b k : ℕ) → a < 256 → b < 256
    → bytes_le 2 10 ++ bytes_le 2 2 ++ bytes_le 1 a ++ bytes_le 1 b ++ bytes_le 8 k ≡ frame (move_rec (move a b k))
unfolding frame
move_record a b k h j = rw (byte_one a, byte_one b, move_length (move a b k)) (simp append_assoc)

pub length-move : (a b k : ℕ) → length (frame (move_rec (move a b k))) ≡ 14
length-move a b k = omega (arith, length-frame (move_rec (move a b k)), move_length (move a b k))

-- ---- weights
pub weights_record : (ws : List ℕ) → bytes_le 2 (2 * length ws) ++ bytes_le 2 5 ++ two_bytes ws ≡ frame (weights_rec ws)
unfolding frame
weights_record ws = rw (weights_length ws) (simp append_assoc)

module _ (ws : List ℕ) where
  pub no_record : all_one ws ≡ true → framed (weights_recs ws) ≡ []
  no_record h = ap framed (none_of_ones ws h)

  pub one_record : all_one ws ≡ false → framed (weights_recs ws) ≡ frame (weights_rec ws)
  one_record h = ap framed (one_of_others ws h) ∙ append-nil (frame (weights_rec ws))

-- ---- item
module _ (x : Item) (k r : ℕ) (ek : k ≡ length x.forward) (er : r ≡ length x.reverse) where
  pub item_record : k ≤ 8 → r ≤ 8 → item_head k r ++ parts_of x ≡ frame (item_rec x)
  unfolding frame item_head parts_of
  item_record h l = rw (item_length x, byte_one k (omega arith), byte_one r (omega arith), ← ek, ← er) (simp append_assoc)

  pub parts_size : length (parts_of x) ≡ 16 + k + r
  unfolding parts_of
  parts_size =
      let f = x.forward in
      let b = x.reverse in
      let p = bytes_le 8 x.phi in
      omega
      (arith, length-append (f ++ b ++ p) (bytes_le 8 x.psi), length-append (f ++ b) p, length-append f b, length-bytes_le 8 x.phi, length-bytes_le 8 x.psi)

  pub item-size : length (frame (item_rec x)) ≡ 22 + k + r
  item-size = omega (arith, length-frame (item_rec x), item_length x)

-- two parts that are lent one after the other, each stored over as a whole
pub two_parts : (d head parts : List ℕ) (at k b j : ℕ) (xs ys : List ℕ) → at + k ≡ b → b + j ≤ length d → length xs ≡ k → length ys ≡ j
    → head ≡ sets (take k (drop at d)) 0 xs → parts ≡ sets (take j (drop b (take at d ++ (head ++ drop k (drop at d))))) 0 ys
    → take b (take at d ++ (head ++ drop k (drop at d))) ++ (parts ++ drop j (drop b (take at d ++ (head ++ drop k (drop at d))))) ≡ sets d at (xs ++ ys)
two_parts d head parts at k b j xs ys eb room nx ny ex ey =
    let e = sets_part d head at k xs (omega arith) nx ex in
    let size = ap length e ∙ length-sets d at xs in
    sets_part (take at d ++ (head ++ drop k (drop at d))) parts b j ys (omega (arith, size)) ny ey
    ∙ ap (λ (l : List ℕ). sets l b ys) e
    ∙ sets_append d at b xs ys (omega arith)

pub length_head : (k r : ℕ) → length (item_head k r) ≡ 6
unfolding item_head bytes_le
length_head k r = refl

-- stored over, both have one length
pub same_room : (d e : List ℕ) (p q : ℕ) (xs ys : List ℕ) → sets d p xs ≡ sets e q ys → length d ≡ length e
same_room d e p q xs ys h = sym (length-sets d p xs) ∙ ap length h ∙ length-sets e q ys

-- ---- the book
pub cells_below : (n m : ℕ) → n ≤ 64 → n * m ≤ 64 * m
cells_below n m h = mul-le-mul {n₁ = n} {m₁ = m} {n₂ = 64} {m₂ = m} h (omega arith)

-- a row of m entries ends where the next begins, at the last one's end at most
pub row_below : (s n m : ℕ) → s < n → (s * m + m ≡ (s + 1) * m) × ((s + 1) * m ≤ n * m)
row_below s n m h = (sym (rw (add-one s) (suc-mul s m)), mul-le-mul_right m (omega arith))

pub bytes_of_book : (n m c : ℕ) (l : Lent)
    → frame (device_rec n m) ++ framed (weights_recs (piece m l.weights 0)) ++ moves_bytes (n * m) l.table 0 m ++ items_bytes c l.slots 0
    ≡ bytes_of (book_from n m c l)
unfolding moves_bytes items_bytes
bytes_of_book n m c l =
    let W = weights_recs (piece m l.weights 0) in
    let M = map move_rec (moves_from (n * m) l.table 0 m) in
    let I = map item_rec (items_from c l.slots 0) in
    rw (framed-append W (M ++ I), framed-append M I) (simp append_assoc)
