-- The commands of an item as one number, whose unused bytes are 0. Assumes nothing.
use mathlib.Core.Path.{◌≡◌, refl, ap}
use mathlib.Core.List.{List, [], ◌∷◌, ◌++◌}
use Prim.Native.Nat.{ℕ, zero, suc, ◌+◌, ◌-◌, ◌*◌, ◌/◌, ◌%◌, ◌^◌, ◌≤◌, ◌<◌}
use native.Mathlib.Nat.{sub-zero}
use native.Mathlib.Omega.{arith}
use lib.ListN.{length, replicate}
use Rattle.base.specs.Lists.{Bytes}
use Rattle.octets.specs.Le.{bytes_le}
use Rattle.octets.specs.Parts.{le, le_at, piece}
use Rattle.octets.proofs.Put.{length-piece, bytes_in, le-piece, low-bytes}
use Rattle.book.specs.Lent.{padded}

bytes-zero : (n : ℕ) → bytes_le n 0 ≡ replicate n 0
unfolding bytes_le
bytes-zero zero = refl
bytes-zero (suc n) = ap (λ (t : List ℕ). 0 ∷ t) (bytes-zero n)

-- the bytes of the number that a shorter row is
bytes_shorter : (n : ℕ) (l : List ℕ) → length l ≤ n → Bytes l → bytes_le n (le l) ≡ l ++ replicate (n - length l) 0
unfolding bytes_le
bytes_shorter n [] h b = rw sub-zero (bytes-zero n)
bytes_shorter zero (x ∷ l) h b = absurd (omega arith)
bytes_shorter (suc n) (x ∷ l) h b =
    let k : x < 256 = b.0 in
    let p : (x + 256 * le l) % 256 ≡ x = omega arith in
    let q : (x + 256 * le l) / 256 ≡ le l = omega arith in
    let z : suc n - suc (length l) ≡ n - length l = omega arith in
    rw (p, q, z, bytes_shorter n l (omega arith) b.1)

-- ---- the contract of `commands_at`
module _ (s : List ℕ) (b : Bytes s) (p eight : ℕ) (e : eight ≡ le_at 8 s p) where
  bytes-padded : (n : ℕ) → n ≤ 8 → bytes_le 8 (le (piece n s p)) ≡ padded (piece n s p)
  bytes-padded n h = bytes_shorter 8 (piece n s p) (omega (arith, length-piece n s p)) (bytes_in n s p b)

  pub fewer_commands : (n : ℕ) → n ≤ 8 → bytes_le 8 (eight % 2 ^ (8 * n)) ≡ padded (piece n s p)
  fewer_commands n h = rw (e, low-bytes n 8 s p h b) (bytes-padded n h)

  pub eight-commands : bytes_le 8 eight ≡ padded (piece 8 s p)
  eight-commands = rw (e, le-piece 8 s p) (bytes-padded 8 (omega arith))
