-- What an item asks, read once, is what it takes to fit: commands as one number are equal exactly where each of them is. Assumes nothing.
use mathlib.Core.Path.{◌≡◌, refl, sym, ap, ◌∙◌}
use mathlib.Core.Bool.{Bool}
use mathlib.Core.List.{List}
use Prim.Native.Nat.{ℕ, ◌+◌, ◌-◌, ◌*◌, ◌/◌, ◌^◌, ◌≤◌, ◌<◌}
use native.Mathlib.Decide.{dec_lt}
use native.Mathlib.Omega.{arith}
use borrow.Author.Tests.{lt-leb}
use lib.Bits.{bit_and, and_mask}
use lib.Dec.{eqb, eqb→eq, leb}
use lib.ListN.{length, get_or}
use lib.Pow.{ones_split, high, ones_lt}
use lib.Seq.{ext_get_or}
use Rattle.base.specs.Tests.{both}
use Rattle.base.specs.Lists.{Bytes}
use Rattle.base.specs.Bounded.{all}
use Rattle.base.specs.Masks.{inside}
use Rattle.base.proofs.Tests.{test_same, eq_t, both_false}
use Rattle.base.proofs.Bounded.{all_at, all_of}
use Rattle.reversal.specs.Reversal.{Item}
use Rattle.octets.specs.Le.{bytes_le}
use Rattle.octets.specs.Parts.{le, le_at, piece}
use Rattle.octets.proofs.Le.{bytes_le-le}
use Rattle.octets.proofs.Put.{length-piece, piece-get, bytes_in, low-bytes}
use Rattle.runs.specs.Computed.{command_of}
use Rattle.points.specs.declared.Asked.{Asked}
use Rattle.points.specs.Links.{same_at, fits_at}
use Rattle.points.specs.Rows.{AskedOf, Ahead, asks_at}

-- ---- the mask of k bytes, as the code has it
pub mask_of : (k : ℕ) → 1 ≤ k → k ≤ 8 → 18446744073709551615 / 2 ^ (64 - 8 * k) ≡ 2 ^ (8 * k) - 1
mask_of k l h =
    let n = 64 - 8 * k in
    let e : 8 * k + n ≡ 64 = omega arith in
    let all_ones : 18446744073709551615 ≡ (2 ^ (8 * k) - 1) * 2 ^ n + (2 ^ n - 1) = ap (λ (x : ℕ). 2 ^ x - 1) (sym e) ∙ ones_split (8 * k) n in
    ap (λ (x : ℕ). x / 2 ^ n) all_ones ∙ high (2 ^ (8 * k) - 1) n (ones_lt n)

-- ---- bytes as a number
-- as the code has it
pub masked_bytes : (k : ℕ) (s : List ℕ) (p mask : ℕ) → k ≤ 8 → Bytes s → mask ≡ 2 ^ (8 * k) - 1
    → bit_and (le_at 8 s p) mask ≡ le (piece k s p)
masked_bytes k s p mask l h e = ap (bit_and (le_at 8 s p)) e ∙ and_mask (le_at 8 s p) (8 * k) ∙ low-bytes k 8 s p l h

-- rows of bytes of one length that are one number are one row
le_same : (xs ys : List ℕ) → length xs ≡ length ys → Bytes xs → Bytes ys → le xs ≡ le ys → xs ≡ ys
le_same xs ys e f g h = sym (bytes_le-le (length ys) xs e f) ∙ ap (bytes_le (length ys)) h ∙ bytes_le-le (length ys) ys refl g

-- ---- whether an item fits
module _ (x : Item) (q : Asked) (asks : AskedOf x q) (s ahead sets : List ℕ) (i : ℕ) (known : Ahead s i ahead)
    (bytes : Bytes s) (own : Bytes x.forward) (some : 1 ≤ length x.forward) (short : length x.forward ≤ 8) where
  abbrev k : ℕ
  k = length x.forward

  module _ (j : ℕ) (b : j ≤ i) (room : k ≤ j) where
    -- the run's commands below point j
    abbrev part : List ℕ
    part = piece k s (5 + (j - k))

    part_is : bit_and (get_or ahead (j - k) 0) q.mask ≡ le part
    part_is = ap (λ (v : ℕ). bit_and v q.mask) (known (j - k) (omega arith)) ∙ masked_bytes k s (5 + (j - k)) q.mask short bytes asks.mask_is

    part_at : (y : ℕ) → y < k → get_or part y 0 ≡ command_of s (j - k + y)
    unfolding command_of
    part_at y l = let e : 5 + (j - k) + y ≡ 5 + (j - k + y) = omega arith in piece-get k s (5 + (j - k)) y l ∙ ap (λ (z : ℕ). get_or s z 0) e

    same-is : eqb (le part) (le x.forward) ≡ same_at x s j
    unfolding same_at
    same-is =
        test_same (eqb (le part) (le x.forward)) (all f k)
        (λ t.
        let e = le_same part x.forward (length-piece k s (5 + (j - k))) (bytes_in k s (5 + (j - k)) bytes) own (eqb→eq (le part) (le x.forward) t) in
        all_of f k (λ y l. eq_t (ap (λ (v : List ℕ). get_or v y 0) (sym e) ∙ part_at y l)))
        (λ t.
        eq_t (ap le
        (ext_get_or 0 part x.forward (length-piece k s (5 + (j - k)))
        (λ y l.
        let h : y < k = omega (arith, length-piece k s (5 + (j - k))) in
        part_at y h ∙ sym (eqb→eq _ _ (all_at f k t y h))))))
      where
        f : ℕ → Bool
        f y = eqb (get_or x.forward y 0) (command_of s (j - k + y))

  pub asks_fits : (j : ℕ) → j ≤ i → asks_at q ahead sets j ≡ fits_at x s sets j
  unfolding asks_at fits_at
  asks_fits j b = rw (asks.k_is, asks.commands_is, asks.phi_is, asks.psi_is) (go (dec_lt j k))
    where
      go : Dec (j < k)
          → both (leb k j)
          (both (eqb (bit_and (get_or ahead (j - k) 0) q.mask) (le x.forward)) (both (inside (get_or sets j 0) x.phi) (inside (get_or sets (j - k) 0) x.psi)))
          ≡ both (leb k j) (both (same_at x s j) (both (inside (get_or sets j 0) x.phi) (inside (get_or sets (j - k) 0) x.psi)))
      go (yes h) = rw (lt-leb k j h) (both_false _ ∙ sym (both_false _))
      go (no h) = rw (part_is j b (omega arith), same-is j b (omega arith))
