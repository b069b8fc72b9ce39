-- The bytes of a number, and a number of bytes, as the library has them. Assumes nothing.
use mathlib.Core.Path.{◌≡◌, refl, ap, sym, ◌∙◌}
use mathlib.Core.List.{List, [], ◌∷◌}
use Prim.Native.Nat.{ℕ, zero, suc, ◌*◌, ◌/◌, ◌%◌, ◌^◌, ◌<◌}
use native.Mathlib.Nat.{pow-suc}
use native.Mathlib.Omega.{arith}
use lib.ListN.{get_or}
use lib.Seq.{sets}
use Rattle.std.specs.Int.{w16, w64, from_le_bytes, to_le_bytes}
use Rattle.octets.specs.Le.{bytes_le}
use Rattle.octets.specs.Parts.{le_at, piece}
use Rattle.octets.proofs.Le.{from-two, from-eight, to-eight}
use Rattle.octets.proofs.Put.{length-piece, le-piece}

-- one element on, of a row with one more before it
piece-cons : (n b : ℕ) (l : List ℕ) (p : ℕ) → piece n (b ∷ l) (suc p) ≡ piece n l p
unfolding piece
piece-cons zero b l p = refl
piece-cons (suc n) b l p = ap (λ (t : List ℕ). get_or l p 0 ∷ t) (piece-cons n b l (suc p))

-- a piece of an empty row
piece-empty : (n p q : ℕ) → piece n [] p ≡ piece n [] q
unfolding piece
piece-empty zero p q = refl
piece-empty (suc n) p q = ap (λ (t : List ℕ). 0 ∷ t) (piece-empty n (suc p) (suc q))

-- the first n bytes of the k lowest of a number that has no more
first-of : (n k v : ℕ) → v < 256 ^ k → piece n (bytes_le k v) 0 ≡ bytes_le n v
unfolding piece bytes_le
first-of zero k v h = refl
first-of (suc n) zero v h =
    let z : v ≡ 0 = omega arith in
    rw z (ap (λ (t : List ℕ). 0 ∷ t) (piece-empty n 1 0 ∙ first-of n zero 0 (omega arith)))
first-of (suc n) (suc k) v h =
    let p : v < 256 ^ k * 256 = rw pow-suc at h in
    ap (λ (t : List ℕ). v % 256 ∷ t) (piece-cons n (v % 256) (bytes_le k (v / 256)) 0 ∙ first-of n k (v / 256) (omega arith))

pub put_bytes : (n v : ℕ) (d : List ℕ) (at : ℕ) → v < 2 ^ 64 → sets d at (piece n (to_le_bytes w64 v) 0) ≡ sets d at (bytes_le n v)
put_bytes n v d at h = rw (to-eight v h, first-of n 8 v (omega arith))

pub two_of : (s bytes : List ℕ) (at : ℕ) → bytes ≡ piece 2 s at → from_le_bytes w16 bytes ≡ le_at 2 s at
two_of s bytes at e = rw e (from-two (piece 2 s at) (length-piece 2 s at) ∙ sym (le-piece 2 s at))

pub eight_of : (s bytes : List ℕ) (at : ℕ) → bytes ≡ piece 8 s at → from_le_bytes w64 bytes ≡ le_at 8 s at
eight_of s bytes at e = rw e (from-eight (piece 8 s at) (length-piece 8 s at) ∙ sym (le-piece 8 s at))
