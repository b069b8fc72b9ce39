-- A number and its bytes: each undoes the other. Assumes nothing.
use mathlib.Core.Path.{◌≡◌, refl, sym, ap, ◌∙◌}
use mathlib.Core.List.{List, [], ◌∷◌}
use Prim.Native.Nat.{ℕ, zero, suc, ◌+◌, ◌*◌, ◌/◌, ◌%◌, ◌^◌, ◌<◌}
use native.Mathlib.Nat.{pow-suc}
use native.Mathlib.Omega.{arith}
use lib.ListN.{length, get_or}
use Rattle.std.specs.Int.{w16, w64, from_le_bytes, to_le_bytes}
use Rattle.std.proofs.lemmas.Nat.{le_bytes_8}
use Rattle.base.specs.Lists.{Each}
use Rattle.octets.specs.Le.{bytes_le}
use Rattle.octets.specs.Parts.{le}

pub length-bytes_le : (n v : ℕ) → length (bytes_le n v) ≡ n
unfolding bytes_le
length-bytes_le zero v = refl
length-bytes_le (suc n) v = ap suc (length-bytes_le n (v / 256))

-- one byte
pub byte_one : (v : ℕ) → v < 256 → bytes_le 1 v ≡ v ∷ []
unfolding bytes_le
byte_one v h = let e : v % 256 ≡ v = omega arith in rw e

pub le-bytes_le : (n v : ℕ) → v < 256 ^ n → le (bytes_le n v) ≡ v
unfolding bytes_le
le-bytes_le zero v h = omega arith
le-bytes_le (suc n) v h =
    let p : v < 256 ^ n * 256 = rw pow-suc at h in
    let e : le (bytes_le n (v / 256)) ≡ v / 256 = le-bytes_le n (v / 256) (omega arith) in
    omega arith

pub bytes_le-le : (n : ℕ) (l : List ℕ) → length l ≡ n → Each (λ b. b < 256) l → bytes_le n (le l) ≡ l
unfolding bytes_le
bytes_le-le zero [] e h = refl
bytes_le-le zero (b ∷ l) e h = absurd (omega arith)
bytes_le-le (suc n) [] e h = absurd (omega arith)
bytes_le-le (suc n) (b ∷ l) e h =
    let k : b < 256 = h.0 in
    let p : (b + 256 * le l) % 256 ≡ b = omega arith in
    let q : (b + 256 * le l) / 256 ≡ le l = omega arith in
    rw (p, q, bytes_le-le n l (omega arith) h.1)

-- each of them is a byte
pub bytes-small : (n v i : ℕ) → get_or (bytes_le n v) i 0 < 256
unfolding bytes_le
bytes-small zero v i = omega arith
bytes-small (suc n) v zero = omega arith
bytes-small (suc n) v (suc i) = bytes-small n (v / 256) i

-- the library's number of 2 and of 8 bytes, and its bytes of a number
pub from-two : (l : List ℕ) → length l ≡ 2 → from_le_bytes w16 l ≡ le l
from-two [] e = absurd (omega arith)
from-two (a ∷ []) e = absurd (omega arith)
from-two (a ∷ b ∷ []) e = omega arith
from-two (a ∷ b ∷ c ∷ l) e = absurd (omega arith)

pub from-eight : (l : List ℕ) → length l ≡ 8 → from_le_bytes w64 l ≡ le l
from-eight [] e = absurd (omega arith)
from-eight (a ∷ []) e = absurd (omega arith)
from-eight (a ∷ b ∷ []) e = absurd (omega arith)
from-eight (a ∷ b ∷ c ∷ []) e = absurd (omega arith)
from-eight (a ∷ b ∷ c ∷ d ∷ []) e = absurd (omega arith)
from-eight (a ∷ b ∷ c ∷ d ∷ f ∷ []) e = absurd (omega arith)
from-eight (a ∷ b ∷ c ∷ d ∷ f ∷ g ∷ []) e = absurd (omega arith)
from-eight (a ∷ b ∷ c ∷ d ∷ f ∷ g ∷ h ∷ []) e = absurd (omega arith)
from-eight (a ∷ b ∷ c ∷ d ∷ f ∷ g ∷ h ∷ i ∷ []) e = omega arith
from-eight (a ∷ b ∷ c ∷ d ∷ f ∷ g ∷ h ∷ i ∷ j ∷ l) e = absurd (omega arith)

pub to-eight : (v : ℕ) → v < 2 ^ 64 → to_le_bytes w64 v ≡ bytes_le 8 v
to-eight v h = le_bytes_8 (bytes_le 8 v) v (length-bytes_le 8 v) (bytes-small 8 v) (sym (from-eight (bytes_le 8 v) (length-bytes_le 8 v) ∙ le-bytes_le 8 v (omega arith)))
