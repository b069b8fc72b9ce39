-- Rows that a loop stores one by one. Assumes nothing.
use mathlib.Core.Path.{◌≡◌, sym, ap, ◌∙◌}
use mathlib.Core.List.{List, [], ◌++◌, append_assoc}
use Prim.Native.Nat.{ℕ, zero, suc, ◌+◌, ◌-◌, ◌*◌, ◌<◌, ◌≤◌}
use native.Mathlib.Nat.{zero-add, add-suc, suc-add, zero-mul, suc-mul}
use native.Mathlib.Numerals.{add-one}
use native.Mathlib.Omega.{arith}
use lib.ListN.{length, length-append}
use lib.Seq.{sets}
use Rattle.octets.proofs.Put.{sets_append}

-- `one i` in turn i, `left k i` in the k turns from i on
pub record Turns (one : ℕ → List ℕ) (left : ℕ → ℕ → List ℕ) : Type 0 where
  pub none : (i : ℕ) → left 0 i ≡ []
  pub more : (k i : ℕ) → left (suc k) i ≡ one i ++ left k (suc i)

module _ {one : ℕ → List ℕ} {left : ℕ → ℕ → List ℕ} (rows : Turns one left) where
  -- the turns from `first` on
  pub rows_from : (first : ℕ) → Turns (λ i. one (first + i)) (λ k i. left k (first + i))
  rows_from first = record { none = λ i. rows.none (first + i); more = λ k i. rw (add-suc first i) (rows.more k (first + i)) }

  rows_split : (a b i : ℕ) → left (a + b) i ≡ left a i ++ left b (a + i)
  rows_split zero b i = rw (zero-add b, zero-add i, rows.none i)
  rows_split (suc a) b i =
      rw (suc-add a b, suc-add a i, rows.more (a + b) i, rows.more a i, append_assoc (one i) (left a (suc i)), rows_split a b (suc i), add-suc a i)

  -- m turns at a time
  pub rows_by : (m : ℕ) → Turns (λ i. left m (i * m)) (λ k i. left (k * m) (i * m))
  rows_by m =
      record {
        none = λ i. rw (zero-mul m) (rows.none (i * m));
        more =
            λ k i.
            let e : suc k * m ≡ m + k * m = omega (arith, suc-mul k m) in
            let f : suc i * m ≡ m + i * m = omega (arith, suc-mul i m) in
            rw (e, f) (rows_split m (k * m) (i * m));
      }

module _ {one : ℕ → List ℕ} {left : ℕ → ℕ → List ℕ} (rows : Turns one left) (n i : ℕ) where
  turn : i < n → left (n - i) i ≡ one i ++ left (n - (i + 1)) (i + 1)
  turn h =
      let e : n - i ≡ suc (n - (i + 1)) = omega arith in
      rw (e, add-one i) (rows.more (n - suc i) i)

  pub rows_again : (d out whole : List ℕ) (p next : ℕ) → sets d p (left (n - i) i) ≡ whole → i < n → out ≡ sets d p (one i)
      → next ≡ p + length (one i) → sets out next (left (n - (i + 1)) (i + 1)) ≡ whole
  rows_again d out whole p next w h o e =
      rw o (sets_append d p next (one i) (left (n - (i + 1)) (i + 1)) (sym e) ∙ (rw (turn h) at w))

  pub count-again : (p next whole : ℕ) → p + length (left (n - i) i) ≡ whole → i < n → next ≡ p + length (one i)
      → next + length (left (n - (i + 1)) (i + 1)) ≡ whole
  count-again p next whole w h e =
      let l = length-append (one i) (left (n - (i + 1)) (i + 1)) in
      let k = ap length (turn h) in
      omega arith

  pub rows_done : (d whole : List ℕ) (p : ℕ) → sets d p (left (n - i) i) ≡ whole → n ≤ i → d ≡ whole
  rows_done d whole p w h =
      let e : n - i ≡ 0 = omega arith in
      rw (e, rows.none i) at w

  pub count-done : (p whole : ℕ) → p + length (left (n - i) i) ≡ whole → n ≤ i → p ≡ whole
  count-done p whole w h =
      let e : n - i ≡ 0 = omega arith in
      let f : p + 0 ≡ whole = rw (e, rows.none i) at w in
      omega arith
