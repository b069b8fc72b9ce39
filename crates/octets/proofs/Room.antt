-- What is stored in the part of a row that has room. Assumes nothing.
use mathlib.Core.Path.{◌≡◌, refl, sym, ap, ◌∙◌}
use mathlib.Core.List.{List, [], ◌∷◌, ◌++◌, append_assoc, append-nil}
use Prim.Native.Nat.{ℕ, zero, suc, ◌+◌, ◌-◌, ◌/◌, ◌%◌, ◌≤◌, ◌<◌}
use native.Mathlib.Decide.{dec_lt}
use native.Mathlib.Omega.{arith}
use lib.ListN.{length, get_or, take, drop, replicate, length-drop, get_or-eq_default, drop_of_length-le}
use lib.Seq.{sets, sets-eq, length-sets, drop-drop, length-take-le}
use denote.Ref.{Bor}
use Rattle.std.specs.Prelude.{min, Option, None, Some, MatchOption}
use Rattle.std.specs.Array.{IsFirstChunk}
use Rattle.std.specs.List.{between}
use Rattle.std.proofs.lemmas.List.{get_or-take, take-append-drop, take-replicate, length-replicate}
use Rattle.std.proofs.lemmas.Grind.{same_number_lists}
use Rattle.std.proofs.lemmas.List.Edits.{get_or-between, length-between}
use Rattle.octets.specs.Le.{bytes_le}
use Rattle.octets.specs.Parts.{piece}
use Rattle.octets.proofs.Le.{length-bytes_le}
use Rattle.octets.proofs.Put.{sets_past, sets_append, length-piece, piece-get, piece-take}

-- a part that is lent and holds xs then, back in its row
pub sets_lent : (d : List ℕ) (a k : ℕ) (xs : List ℕ) → a + k ≤ length d → length xs ≡ k
    → take a d ++ (xs ++ drop k (drop a d)) ≡ sets d a xs
sets_lent d a k xs h l = rw (drop-drop k a d, ← l) (sym (append_assoc (take a d) xs _) ∙ sym (sets-eq xs d a (omega arith)))

-- a row stored over a whole row
pub sets_all : (d xs : List ℕ) → length xs ≡ length d → sets d 0 xs ≡ xs
sets_all d xs l =
    let o : drop (0 + length xs) d ≡ [] = drop_of_length-le d {i = 0 + length xs} (omega arith) in
    sets-eq xs d 0 (omega arith) ∙ rw o (append-nil xs)

-- a row that is stored in two
sets_split : (d : List ℕ) (at k : ℕ) (xs : List ℕ) → k ≤ length xs → sets d at xs ≡ sets (sets d at (take k xs)) (at + k) (drop k xs)
sets_split d at k xs h =
    let l : length (take k xs) ≡ k = length-take-le k xs h in
    sym (sets_append d at (at + k) (take k xs) (drop k xs) (omega arith) ∙ ap (sets d at) (take-append-drop k xs))

module _ (d : List ℕ) (at n a e : ℕ) where
  -- as much of xs as has room is all of it that `sets` stores
  room-stores : (xs : List ℕ) → length xs ≡ n → a ≡ min at (length d) → e ≡ min (at + n) (length d) → sets d a (take (e - a) xs) ≡ sets d at xs
  room-stores xs l p q = go (dec_lt at (length d)) (dec_lt (length d) (at + n))
    where
      go : Dec (at < length d) → Dec (length d < at + n) → sets d a (take (e - a) xs) ≡ sets d at xs
      go (no f) _ =
          let z : e - a ≡ 0 = omega arith in
          rw z (sym (sets_past d at xs (omega arith)))
      go (yes f) (yes g) =
          let i : a ≡ at = omega arith in
          let s : length (sets d at (take (e - at) xs)) ≡ length d = length-sets d at (take (e - at) xs) in
          rw i (sym (sets_split d at (e - at) xs (omega arith) ∙ sets_past _ (at + (e - at)) (drop (e - at) xs) (omega arith)))
      go (yes f) (no g) =
          let i : a ≡ at = omega arith in
          let o : drop (e - at) xs ≡ [] = drop_of_length-le xs {i = e - at} (omega arith) in
          rw i (sym (sets_split d at (e - at) xs (omega arith) ∙ rw o))

  pub sets_room : (xs part : List ℕ) → length xs ≡ n → a ≡ min at (length d) → e ≡ min (at + n) (length d) → part ≡ take (e - a) xs
      → take a d ++ (part ++ drop (e - a) (drop a d)) ≡ sets d at xs
  sets_room xs part l p q is =
      rw is (sets_lent d a (e - a) (take (e - a) xs) (omega arith) (length-take-le (e - a) xs (omega arith)) ∙ room-stores xs l p q)

  pub fill_room : (b : ℕ) (part : List ℕ) → a ≡ min at (length d) → e ≡ min (at + n) (length d) → part ≡ replicate (e - a) b
      → take a d ++ (part ++ drop (e - a) (drop a d)) ≡ sets d at (replicate n b)
  fill_room b part p q is =
      sets_room (replicate n b) part (length-replicate n b) p q (is ∙ sym (take-replicate (e - a) n b (omega arith)))

  from-part : (s : List ℕ) (p f t k : ℕ) → f ≡ min p (length s) → t ≡ min (p + n) (length s) → k < n → get_or (between f t s) k 0 ≡ get_or s (p + k) 0
  from-part s p f t k v w h = go (dec_lt (p + k) (length s))
    where
      go : Dec (p + k < length s) → get_or (between f t s) k 0 ≡ get_or s (p + k) 0
      go (yes i) = let j : f ≡ p = omega arith in get_or-between s f t k 0 (omega arith) ∙ rw j
      go (no i) =
          let j = length-between s f t (omega arith) in
          get_or-eq_default (between f t s) 0 (omega arith) ∙ sym (get_or-eq_default s 0 (omega arith))

  -- the part holds a piece of s, which is from f to t, and 0 past that
  pub copy_room : (s : List ℕ) (p f t : ℕ) (part : List ℕ) → f ≡ min p (length s) → t ≡ min (p + n) (length s)
      → a ≡ min at (length d) → e ≡ min (at + n) (length d)
      → length part ≡ e - a → ((k : ℕ) → k < e - a → get_or part k 0 ≡ get_or (between f t s) k 0)
      → take a d ++ (part ++ drop (e - a) (drop a d)) ≡ sets d at (piece n s p)
  copy_room s p f t part v w x y l each =
      let size : length (piece n s p) ≡ n = length-piece n s p in
      sets_room (piece n s p) part size x y
      (same_number_lists part (take (e - a) (piece n s p)) (l ∙ sym (length-take-le (e - a) (piece n s p) (omega arith)))
      (λ k h.
      each k (omega arith)
      ∙ (from-part s p f t k v w (omega arith)
      ∙ sym (get_or-take (e - a) (piece n s p) k 0 (omega arith) ∙ piece-get n s p k (omega arith)))))

-- ---- the lowest bytes of a number
take-bytes : (k n v : ℕ) → k ≤ n → take k (bytes_le n v) ≡ bytes_le k v
unfolding bytes_le
take-bytes zero n v h = refl
take-bytes (suc k) zero v h = absurd (omega arith)
take-bytes (suc k) (suc n) v h = ap (λ (t : List ℕ). v % 256 ∷ t) (take-bytes k n (v / 256) (omega arith))

pub put_lent : (d : List ℕ) (at n v : ℕ) (part : List ℕ) → at + n ≤ length d → part ≡ bytes_le (length (take (at + n - at) (drop at d))) v
    → take at d ++ (part ++ drop (at + n - at) (drop at d)) ≡ sets d at (bytes_le n v)
put_lent d at n v part h is =
    let k : at + n - at ≡ n = omega arith in
    let l : length (take n (drop at d)) ≡ n = length-take-le n (drop at d) (omega (arith, length-drop at d)) in
    let i : part ≡ bytes_le n v = rw (k, l) at is in
    rw (k, i) (sets_lent d at n (bytes_le n v) h (length-bytes_le n v))

pub put_room : (d : List ℕ) (at n v a e : ℕ) (part : List ℕ) → a ≡ min at (length d) → e ≡ min (at + n) (length d)
    → part ≡ bytes_le (length (take (e - a) (drop a d))) v → take a d ++ (part ++ drop (e - a) (drop a d)) ≡ sets d at (bytes_le n v)
put_room d at n v a e part p q is =
    let l : length (take (e - a) (drop a d)) ≡ e - a = length-take-le (e - a) (drop a d) (omega (arith, length-drop a d)) in
    let i : part ≡ bytes_le (e - a) v = rw l at is in
    sets_room d at n a e (bytes_le n v) part (length-bytes_le n v) p q (i ∙ sym (take-bytes (e - a) n v (omega arith)))

-- ---- the first bytes of what a row has from a place on
pub chunk_of : (n : ℕ) (s rest : List ℕ) (at : ℕ) (r : Option (Bor (List ℕ))) → at ≤ length s → rest ≡ drop at s
    → MatchOption r (length rest < n) (λ y. IsFirstChunk rest y.now n)
    → MatchOption r (length s < at + n) (λ b. (at + n ≤ length s) × (b.now ≡ piece n s at))
chunk_of n s rest at None h e m = omega (arith, ap length e, length-drop at s)
chunk_of n s rest at (Some y) h e m =
    let l : at + n ≤ length s = omega (arith, m.enough, ap length e, length-drop at s) in
    (l, m.same ∙ (ap (take n) e ∙ sym (piece-take n s at l)))
