-- Rows of bytes stored from a place on. Assumes nothing.
use mathlib.Core.Path.{◌≡◌, refl, sym, ap, ◌∙◌, subst}
use mathlib.Core.Bool.{Bool, true, false, not}
use mathlib.Core.List.{List, [], ◌∷◌, ◌++◌, append_assoc, append-nil}
use Prim.Native.Nat.{ℕ, zero, suc, ◌+◌, ◌-◌, ◌*◌, ◌/◌, ◌%◌, ◌^◌, ◌≤◌, ◌<◌}
use native.Mathlib.Nat.{add-zero}
use native.Mathlib.Numerals.{add-one}
use native.Mathlib.Decide.{dec_lt}
use native.Mathlib.Omega.{arith}
use borrow.Author.Tests.{leb-false}
use lib.Dec.{T, leb}
use lib.ListN.{length, get_or, set, take, drop, replicate, length-drop, length-append, drop_of_length-le, get_or-eq_default}
use lib.Pow.{mod-pow-add}
use lib.Seq.{set_out, set-set, set_comm, sets, sets-eq, drop-cons, drop-drop, take_at, length-take-le}
use Rattle.base.specs.Lists.{Each, Bytes}
use Rattle.base.proofs.Lists.{each_at, each_of}
use mir.Syntax.{w8}
use mir.Val.{Fits}
use Rattle.octets.specs.Le.{bytes_le}
use Rattle.octets.specs.Parts.{le, le_at, piece}
use Rattle.octets.proofs.Le.{bytes_le-le}
use Rattle.octets.proofs.LeAt.{le-suc}

-- past the end nothing is stored
pub sets_past : (l : List ℕ) (i : ℕ) (xs : List ℕ) → length l ≤ i → sets l i xs ≡ l
sets_past l i [] h = refl
sets_past l i (x ∷ xs) h = rw (set_out l i x h) (sets_past l (suc i) xs (omega arith))

-- one row after another is the two rows together
pub sets_append : (l : List ℕ) (i j : ℕ) (xs ys : List ℕ) → i + length xs ≡ j → sets (sets l i xs) j ys ≡ sets l i (xs ++ ys)
sets_append l i j [] ys e = let f : i ≡ j = omega arith in rw (← f)
sets_append l i j (x ∷ xs) ys e = sets_append (set l i x) (suc i) j xs ys (omega arith)

-- a row stored over one that is no longer
set_sets : (l : List ℕ) (i j z : ℕ) (ys : List ℕ) → i < j → set (sets l j ys) i z ≡ sets (set l i z) j ys
set_sets l i j z [] h = refl
set_sets l i j z (y ∷ ys) h =
    set_sets (set l j y) i (suc j) z ys (omega arith) ∙ ap (λ (t : List ℕ). sets t (suc j) ys) (set_comm l j i y z (λ e. omega arith))

sets_again : (l : List ℕ) (i : ℕ) (ys zs : List ℕ) → length ys ≤ length zs → sets (sets l i ys) i zs ≡ sets l i zs
sets_again l i [] zs h = refl
sets_again l i (y ∷ ys) [] h = absurd (omega arith)
sets_again l i (y ∷ ys) (z ∷ zs) h =
    ap (λ (t : List ℕ). sets t (suc i) zs)
    (set_sets (set l i y) i (suc i) z ys (omega arith) ∙ ap (λ (t : List ℕ). sets t (suc i) ys) (set-set l i y z))
    ∙ sets_again (set l i z) (suc i) ys zs (omega arith)

sets_over : (l : List ℕ) (i j : ℕ) (xs ys zs : List ℕ) → i + length xs ≡ j → length ys ≤ length zs → sets (sets l i (xs ++ ys)) j zs ≡ sets l i (xs ++ zs)
sets_over l i j [] ys zs e h = let f : i ≡ j = omega arith in rw (← f) (sets_again l i ys zs h)
sets_over l i j (x ∷ xs) ys zs e h = sets_over (set l i x) (suc i) j xs ys zs (omega arith) h

-- a part that is lent and stored over as a whole, back in its row
pub sets_part : (l part : List ℕ) (i k : ℕ) (xs : List ℕ) → i + k ≤ length l → length xs ≡ k → part ≡ sets (take k (drop i l)) 0 xs
    → take i l ++ (part ++ drop k (drop i l)) ≡ sets l i xs
sets_part l part i k xs h n e =
    let size : length (take k (drop i l)) ≡ k = length-take-le k (drop i l) (omega (arith, length-drop i l)) in
    let none : drop (0 + length xs) (take k (drop i l)) ≡ [] = drop_of_length-le (take k (drop i l)) {i = 0 + length xs} (omega arith) in
    let same : part ≡ xs = e ∙ sets-eq xs (take k (drop i l)) 0 (omega arith) ∙ rw none (append-nil xs) in
    rw (same, drop-drop k i l, ← n) (sym (append_assoc (take i l) xs _) ∙ sym (sets-eq xs l i (omega arith)))

-- e is l with xs stored from `at` on, and then with ys after them
pub record Wrote (l : List ℕ) (at : ℕ) (xs e : List ℕ) : Type 0 where
  pub is : e ≡ sets l at xs

pub first : (l : List ℕ) (at : ℕ) (xs : List ℕ) {e : List ℕ} → e ≡ sets l at xs → Wrote l at xs e
first l at xs q = record { is = q }

pub then : {l : List ℕ} {at : ℕ} {xs d e : List ℕ} → Wrote l at xs d → (p : ℕ) (ys : List ℕ) → at + length xs ≡ p → e ≡ sets d p ys
    → Wrote l at (xs ++ ys) e
then {l} {at} {xs} w p ys h q = record { is = q ∙ (ap (λ (x : List ℕ). sets x p ys) w.is ∙ sets_append l at p xs ys h) }

-- and with zs after xs, over what was too long there
pub over : {l : List ℕ} {at : ℕ} {d e : List ℕ} (xs ys : List ℕ) → Wrote l at (xs ++ ys) d → (p : ℕ) (zs : List ℕ) → at + length xs ≡ p
    → length ys ≤ length zs → e ≡ sets d p zs → Wrote l at (xs ++ zs) e
over {l} {at} xs ys w p zs h k q = record { is = q ∙ (ap (λ (x : List ℕ). sets x p zs) w.is ∙ sets_over l at p xs ys zs h k) }

-- ---- the loop of `put_all`: what is left to store gives the whole
module _ (whole : List ℕ) (left x to : ℕ) where
  pub put_again : (d : List ℕ) → sets d to (bytes_le left x) ≡ whole → (left ≡ 0 → ⊥)
      → sets (set d to (x % 256)) (to + 1) (bytes_le (left - 1) (x / 256)) ≡ whole
  unfolding bytes_le
  put_again d w h =
      let e : left ≡ suc (left - 1) = omega arith in
      rw (add-one to) (rw e at w)

  pub put_none : (d : List ℕ) → sets d to (bytes_le left x) ≡ whole → left ≡ 0 → d ≡ whole
  unfolding bytes_le
  put_none d w h = rw h at w

-- ---- one byte stored again and again: what is left to store gives the whole
module _ (whole : List ℕ) (left b to : ℕ) where
  pub fill_again : (d : List ℕ) → sets d to (replicate left b) ≡ whole → (left ≡ 0 → ⊥) → sets (set d to b) (to + 1) (replicate (left - 1) b) ≡ whole
  fill_again d w h =
      let e : left ≡ suc (left - 1) = omega arith in
      rw (add-one to) (rw e at w)

  pub fill_none : (d : List ℕ) → sets d to (replicate left b) ≡ whole → left ≡ 0 → d ≡ whole
  fill_none d w h = rw h at w

  pub fill_past : (d : List ℕ) → sets d to (replicate left b) ≡ whole → length d ≤ to → d ≡ whole
  fill_past d w h = sym (sets_past d to (replicate left b) h) ∙ w

-- ---- the test for room
pub no_room : (r : Bool) (len at n : ℕ) → r ≡ leb (at + n) len → not r ≡ true → len < at + n
no_room true len at n e f = absurd (subst (λ (t : Bool). T (not t)) f tt)
no_room false len at n e f = leb-false (at + n) len (sym e)

-- ---- the bytes that are copied
pub length-piece : (n : ℕ) (s : List ℕ) (p : ℕ) → length (piece n s p) ≡ n
unfolding piece
length-piece zero s p = refl
length-piece (suc n) s p = ap suc (length-piece n s (suc p))

pub piece-take : (n : ℕ) (s : List ℕ) (p : ℕ) → p + n ≤ length s → piece n s p ≡ take n (drop p s)
unfolding piece
piece-take zero s p h = refl
piece-take (suc n) s p h = rw (drop-cons s p 0 (omega arith), piece-take n s (suc p) (omega arith))

-- what stands at p is the piece from there
pub piece_at : (s : List ℕ) (p n : ℕ) (xs t : List ℕ) → drop p s ≡ xs ++ t → length xs ≡ n → piece n s p ≡ xs
unfolding piece
piece_at s p zero [] t e l = refl
piece_at s p zero (x ∷ xs) t e l = absurd (omega arith)
piece_at s p (suc n) xs t e l =
    piece-take (suc n) s p (omega (arith, length-drop p s, ap length e, length-append xs t)) ∙ (ap (take (suc n)) e ∙ take_at xs t (suc n) l)

-- a piece in two
pub piece_split : (n k m : ℕ) (s : List ℕ) (p q : ℕ) → n + k ≡ m → p + n ≡ q → piece m s p ≡ piece n s p ++ piece k s q
unfolding piece
piece_split zero k m s p q h l =
    let e : k ≡ m = omega arith in
    let f : p ≡ q = omega arith in
    rw (e, f)
piece_split (suc n) k zero s p q h l = absurd (omega arith)
piece_split (suc n) k (suc m) s p q h l = ap (λ (t : List ℕ). get_or s p 0 ∷ t) (piece_split n k m s (suc p) q (omega arith) (omega arith))

pub piece-get : (n : ℕ) (s : List ℕ) (p i : ℕ) → i < n → get_or (piece n s p) i 0 ≡ get_or s (p + i) 0
unfolding piece
piece-get zero s p i h = absurd (omega arith)
piece-get (suc n) s p zero h = rw (add-zero p)
piece-get (suc n) s p (suc i) h =
    let e : suc p + i ≡ p + suc i = omega arith in
    piece-get n s (suc p) i (omega arith) ∙ ap (λ (j : ℕ). get_or s j 0) e

pub each-piece : (P : ℕ → Type 0) → P 0 → (n : ℕ) (s : List ℕ) (p : ℕ) → Each P s → Each P (piece n s p)
unfolding piece
each-piece P z zero s p h = tt
each-piece P z (suc n) s p h = (go (dec_lt p (length s)), each-piece P z n s (suc p) h)
  where
    go : Dec (p < length s) → P (get_or s p 0)
    go (yes l) = each_at P s h p 0 l
    go (no l) = subst P (sym (get_or-eq_default s 0 (omega arith))) z

-- the elements of a slice of bytes are bytes
pub each_byte : (s : List ℕ) → ((i : ℕ) → Fits w8 (get_or s i 0)) → Bytes s
each_byte s h = each_of (λ x. x < 256) s 0 (λ i l. omega (arith, h i))

pub byte_in_lem : (s : List ℕ) → Bytes s → (p : ℕ) → get_or s p 0 < 256
unfolding piece
byte_in_lem s b p = (each-piece (λ v. v < 256) (omega arith) 1 s p b).0

pub bytes_in : (n : ℕ) (s : List ℕ) (p : ℕ) → Bytes s → Bytes (piece n s p)
bytes_in n s p b = each-piece (λ v. v < 256) (omega arith) n s p b

-- the number in n bytes: that of the row, of which the first k bytes are the first of the row
pub le-piece : (n : ℕ) (s : List ℕ) (p : ℕ) → le_at n s p ≡ le (piece n s p)
unfolding piece
le-piece zero s p = refl
le-piece (suc n) s p = rw (← le-piece n s (suc p)) (le-suc n s p)

pub first-bytes : (k n : ℕ) (s : List ℕ) (p : ℕ) → k ≤ n → Bytes s → bytes_le k (le_at n s p) ≡ piece k s p
unfolding piece bytes_le
first-bytes zero n s p h b = refl
first-bytes (suc k) zero s p h b = absurd (omega arith)
first-bytes (suc k) (suc n) s p h b =
    let l : get_or s p 0 < 256 = byte_in_lem s b p in
    let x : (get_or s p 0 + 256 * le_at n s (suc p)) % 256 ≡ get_or s p 0 = omega arith in
    let y : (get_or s p 0 + 256 * le_at n s (suc p)) / 256 ≡ le_at n s (suc p) = omega arith in
    rw (le-suc n s p, x, y, first-bytes k n s (suc p) (omega arith) b)

-- below 2 ^ (8 * k) it is the number of the first k
pub low-bytes : (k n : ℕ) (s : List ℕ) (p : ℕ) → k ≤ n → Bytes s → le_at n s p % 2 ^ (8 * k) ≡ le (piece k s p)
unfolding piece
low-bytes zero n s p h b = omega arith
low-bytes (suc k) zero s p h b = absurd (omega arith)
low-bytes (suc k) (suc n) s p h b =
    let v = get_or s p 0 + 256 * le_at n s (suc p) in
    let l : get_or s p 0 < 256 = byte_in_lem s b p in
    let e : 8 * suc k ≡ 8 * k + 8 = omega arith in
    let x : v % 256 ≡ get_or s p 0 = omega arith in
    let y : v / 256 ≡ le_at n s (suc p) = omega arith in
    rw (e, le-suc n s p, mod-pow-add v (8 * k) 8, x, y) (omega (arith, low-bytes k n s (suc p) (omega arith) b))

-- the bytes of the number that some bytes are
pub bytes-piece : (n : ℕ) (s : List ℕ) → Bytes s → (p : ℕ) → p + n ≤ length s → bytes_le n (le_at n s p) ≡ piece n s p
bytes-piece n s b p l =
    ap (λ (v : List ℕ). bytes_le n (le v)) (sym (piece-take n s p l))
    ∙ bytes_le-le n (piece n s p) (length-piece n s p) (each-piece (λ v. v < 256) (omega arith) n s p b)
