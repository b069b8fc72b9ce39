-- The numbers from point 0 upward, turn by turn, and the item that begins a chain. Assumes nothing.
use mathlib.Core.Path.{◌≡◌, refl, sym, ap, ◌∙◌, subst}
use mathlib.Core.Bool.{Bool, true, false}
use mathlib.Core.List.{List, [], ◌∷◌, ◌++◌}
use Prim.Native.Nat.{ℕ, suc, ◌+◌, ◌-◌, ◌≤◌, ◌<◌, zero-le}
use native.Mathlib.Numerals.{add-one}
use native.Mathlib.Decide.{dec_lt}
use native.Mathlib.Omega.{arith}
use lib.Dec.{T, eqb, eqb→eq}
use lib.ListN.{get_or, set, replicate, length-set, get_or-append}
use lib.Seq.{set_at, append_snoc, get_or-set_same, get_or-set_other}
use Rattle.base.specs.Tests.{pick}
use Rattle.base.specs.Bounded.{seek}
use Rattle.base.proofs.Tests.{both_l, both_r, both_of, eq_t, pick_yes, pick_no}
use Rattle.base.proofs.Bounded.{least-same, seek_hit, seek-low}
use Rattle.reversal.specs.Computed.Least.{Links, via, leasts, least_at, begins}
use Rattle.reversal.proofs.Shortest.{leasts-length, leasts_at, least-suc}
use Rattle.points.specs.Links.{Chosen, Numbered}

module _ (R : Links) (moving : (a : ℕ) → a < R.count → 1 ≤ R.k a) where
  -- the numbers so far, and the top above
  abbrev padded : ℕ → List ℕ
  padded j = leasts R j ++ replicate (32 - j) R.top

  -- a lower point's number stands in both
  lower-same : (j a : ℕ) → a < R.count → get_or (padded j) (suc j - R.k a) 0 ≡ least_at R (suc j - R.k a)
  lower-same j a l =
      get_or-append (leasts R j) (replicate (32 - j) R.top) 0 (suc j - R.k a) (omega (arith, leasts-length R j, moving a l))
      ∙ leasts_at R j (suc j - R.k a) (omega (arith, moving a l))

  via-same : (j a : ℕ) → a < R.count → via R (padded j) (suc j) a ≡ via R (leasts R j) (suc j) a
  unfolding via
  via-same j a l =
      ap (λ (x : ℕ). pick (R.fit a (suc j)) (R.price a + x) R.top)
      (lower-same j a l ∙ sym (leasts_at R j (suc j - R.k a) (omega (arith, moving a l))))

  number_is : (j number item : ℕ) → Chosen R (padded j) (suc j) R.count number item → number ≡ least_at R (suc j)
  number_is j number item g =
      g.least_is ∙ least-same R.top (via R (padded j) (suc j)) (via R (leasts R j) (suc j)) R.count (via-same j) ∙ sym (least-suc R j)

  -- ---- the item that begins a chain
  via-begins : (j a : ℕ) → a < R.count → via R (padded j) (suc j) a ≡ least_at R (suc j) → least_at R (suc j) < R.top → T (begins R (suc j) a)
  unfolding via begins
  via-begins j a l e h = go (R.fit a (suc j)) refl
    where
      go : (b : Bool) → R.fit a (suc j) ≡ b → T (begins R (suc j) a)
      go true f =
          both_of (R.fit a (suc j)) (eqb (R.price a + least_at R (suc j - R.k a)) (least_at R (suc j))) (rw f tt)
          (eq_t (ap (λ (x : ℕ). R.price a + x) (sym (lower-same j a l)) ∙ sym (pick_yes (R.fit a (suc j)) _ R.top (rw f tt)) ∙ e))
      go false f =
          absurd (omega (arith, e, pick_no (R.fit a (suc j)) (R.price a + get_or (padded j) (suc j - R.k a) 0) R.top (λ t. rw f at t)))

  begins-via : (j a : ℕ) → a < R.count → T (begins R (suc j) a) → via R (padded j) (suc j) a ≡ least_at R (suc j)
  unfolding via begins
  begins-via j a l t =
      pick_yes (R.fit a (suc j)) _ R.top (both_l (R.fit a (suc j)) _ t)
      ∙ ap (λ (x : ℕ). R.price a + x) (lower-same j a l)
      ∙ eqb→eq (R.price a + least_at R (suc j - R.k a)) (least_at R (suc j)) (both_r (R.fit a (suc j)) _ t)

  item_is : (j number item : ℕ) → Chosen R (padded j) (suc j) R.count number item → least_at R (suc j) < R.top
      → item ≡ seek (begins R (suc j)) 0 R.count
  item_is j number item g h = go (dec_lt found item)
    where
      found : ℕ
      found = seek (begins R (suc j)) 0 R.count

      n : number ≡ least_at R (suc j)
      n = number_is j number item g

      small : number < R.top
      small = subst (λ (x : ℕ). x < R.top) (sym n) h

      low : found ≤ item
      low =
          seek-low (begins R (suc j)) R.count 0 item zero-le (omega (arith, g.known small))
          (via-begins j item (g.known small) (g.here small ∙ n) h)

      go : Dec (found < item) → item ≡ found
      go (yes l) =
          let known : found < R.count = omega (arith, g.known small) in
          absurd (omega (arith, n, g.lowest small found l, begins-via j found known (seek_hit (begins R (suc j)) R.count 0 (omega arith))))
      go (no l) = omega (arith, low)

  -- ---- the loop
  pub numbered-start : Numbered R 0 (0 ∷ replicate 32 R.top) (replicate 33 0)
  unfolding leasts
  numbered-start = record { low = omega arith; fewest = refl; size = refl; first = λ l a b. absurd (omega arith) }

  pub numbered_next : (j : ℕ) (ns items : List ℕ) (number item : ℕ) → j < 32 → Numbered R j ns items → Chosen R ns (j + 1) R.count number item
      → Numbered R (j + 1) (set ns (j + 1) number) (set items (j + 1) item)
  unfolding leasts
  numbered_next j ns items number item l g c =
      record { low = omega arith; fewest = fewest; size = length-set items (j + 1) item ∙ g.size; first = first }
    where
      chosen : Chosen R (padded j) (suc j) R.count number item
      chosen =
          subst (λ (x : ℕ). Chosen R (padded j) x R.count number item) (add-one j)
          (subst (λ (x : List ℕ). Chosen R x (j + 1) R.count number item) g.fewest c)

      n : number ≡ least_at R (suc j)
      n = number_is j number item chosen

      fewest : set ns (j + 1) number ≡ leasts R (j + 1) ++ replicate (32 - (j + 1)) R.top
      fewest =
          let s : 32 - j ≡ suc (32 - (j + 1)) = omega arith in
          ap (λ (x : List ℕ). set x (j + 1) number) (g.fewest ∙ ap (λ (k : ℕ). leasts R j ++ replicate k R.top) s)
          ∙ set_at (leasts R j) R.top (replicate (32 - (j + 1)) R.top) number (j + 1) (leasts-length R j ∙ sym (add-one j))
          ∙ sym (append_snoc (leasts R j) number (replicate (32 - (j + 1)) R.top))
          ∙ ap (λ (x : ℕ). (leasts R j ++ (x ∷ [])) ++ replicate (32 - (j + 1)) R.top) (n ∙ least-suc R j)
          ∙ ap (λ (x : ℕ). leasts R x ++ replicate (32 - (j + 1)) R.top) (sym (add-one j))

      first : (k : ℕ) → 1 ≤ k → k ≤ j + 1 → least_at R k < R.top → get_or (set items (j + 1) item) k 0 ≡ seek (begins R k) 0 R.count
      first k a b h = go (dec_lt j k)
        where
          go : Dec (j < k) → get_or (set items (j + 1) item) k 0 ≡ seek (begins R k) 0 R.count
          go (yes q) =
              let z : k ≡ j + 1 = omega arith in
              let z' : k ≡ suc j = omega arith in
              ap (λ (x : ℕ). get_or (set items (j + 1) item) x 0) z
              ∙ get_or-set_same items (j + 1) item 0 (omega (arith, g.size))
              ∙ item_is j number item chosen (subst (λ (x : ℕ). least_at R x < R.top) z' h)
              ∙ ap (λ (x : ℕ). seek (begins R x) 0 R.count) (sym z')
          go (no q) = get_or-set_other items (j + 1) k item 0 (λ z. omega arith) ∙ g.first k a (omega arith) h
