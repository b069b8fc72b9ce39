-- A number read byte by byte at a place. Assumes nothing.
use mathlib.Core.Path.{◌≡◌, refl, ◌∙◌}
use mathlib.Core.Bool.{false}
use mathlib.Core.List.{List, [], ◌∷◌}
use Prim.Native.Nat.{ℕ, zero, suc, ◌+◌, ◌*◌, ◌≤◌}
use native.Mathlib.Nat.{add-suc}
use native.Mathlib.Numerals.{add-one}
use native.Mathlib.Omega.{arith}
use borrow.Author.Tests.{le-leb}
use lib.Dec.{leb}
use lib.ListN.{length, get_or, drop_of_length-le}
use lib.Seq.{take-nil}
use Rattle.base.specs.Tests.{pick}
use Rattle.octets.specs.Parts.{le_at, whole_at}

-- one byte more, at any place, also past the end
pub le-suc : (n : ℕ) (s : List ℕ) (at : ℕ) → le_at (suc n) s at ≡ get_or s at 0 + 256 * le_at n s (suc at)
le-suc n [] zero = rw take-nil
le-suc n [] (suc at) = rw take-nil
le-suc n (x ∷ s) zero = refl
le-suc n (x ∷ s) (suc at) = le-suc n s at

-- the same at an offset k from `at`, as the code counts
le_next : (n : ℕ) (s : List ℕ) (at k : ℕ) → le_at (suc n) s (at + k) ≡ get_or s (at + k) 0 + 256 * le_at n s (at + suc k)
le_next n s at k = le-suc n s (at + k) ∙ rw add-suc

le-first : (n : ℕ) (s : List ℕ) (at : ℕ) → le_at (suc n) s at ≡ get_or s at 0 + 256 * le_at n s (at + 1)
le-first n s at = rw add-one (le-suc n s at)

module _ (s : List ℕ) (at : ℕ) where
  pub le2 : le_at 2 s at ≡ get_or s at 0 + 256 * get_or s (at + 1) 0
  le2 = omega (arith, le-first 1 s at, le_next 0 s at 1)

  pub le8 : le_at 8 s at
      ≡ get_or s at 0
      + 256 * (get_or s (at + 1) 0
      + 256 * (get_or s (at + 2) 0
      + 256 * (get_or s (at + 3) 0
      + 256 * (get_or s (at + 4) 0 + 256 * (get_or s (at + 5) 0 + 256 * (get_or s (at + 6) 0 + 256 * get_or s (at + 7) 0))))))
  le8 =
      omega
      (arith, le-first 7 s at, le_next 6 s at 1, le_next 5 s at 2, le_next 4 s at 3, le_next 3 s at 4, le_next 2 s at 5, le_next 1 s at 6, le_next 0 s at 7)

  -- in two halves, as sums of bytes
  pub halves8 : le_at 8 s at
      ≡ (get_or s at 0 + 256 * get_or s (at + 1) 0 + 65536 * get_or s (at + 2) 0 + 16777216 * get_or s (at + 3) 0)
      + 4294967296 * (get_or s (at + 4) 0 + 256 * get_or s (at + 5) 0 + 65536 * get_or s (at + 6) 0 + 16777216 * get_or s (at + 7) 0)
  halves8 = omega (arith, le8)

-- past the end there is nothing
pub le-past : (n : ℕ) (s : List ℕ) (at : ℕ) → length s ≤ at → 0 ≡ le_at n s at
le-past n s at h = rw (drop_of_length-le s h, take-nil)

-- eight bytes that are all there, or not
pub whole_in : (s : List ℕ) (at : ℕ) → at + 8 ≤ length s → whole_at s at ≡ le_at 8 s at
unfolding whole_at pick
whole_in s at h = rw (le-leb (at + 8) (length s) h)

pub whole_out : (s : List ℕ) (at : ℕ) → leb (at + 8) (length s) ≡ false → whole_at s at ≡ 0
unfolding whole_at pick
whole_out s at e = rw e
