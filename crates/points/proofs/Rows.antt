-- The tests of what an item asks, the rows of the items that fit, and what is known of the items read, turn by turn. Assumes nothing.
use mathlib.Core.Path.{◌≡◌, refl, sym, ap, ◌∙◌}
use mathlib.Core.Bool.{Bool, true, false}
use mathlib.Core.List.{List}
use Prim.Native.Nat.{ℕ, ◌+◌, ◌-◌, ◌*◌, ◌%◌, ◌^◌, ◌≤◌, ◌<◌}
use native.Mathlib.Decide.{dec_lt}
use native.Mathlib.Omega.{arith}
use native.Mathlib.Nat.{zero-div}
use borrow.Author.Tests.{le-leb, lt-leb, lt-ltb, le-ltb, eq-eqb, ne_eqb}
use lib.Bits.{bit_and, bit_or}
use lib.Dec.{eqb, ltb}
use lib.ListN.{length, get_or, set, replicate, length-set, get_or-replicate}
use lib.Seq.{get_or-set_same, get_or-set_other}
use Rattle.base.specs.Tests.{pick, both}
use Rattle.base.specs.Cardinality.{member}
use Rattle.base.specs.Masks.{added, inside}
use Rattle.base.proofs.Added.{one_more_member, one_more_other}
use Rattle.base.proofs.Masks.{added-here}
use Rattle.reversal.specs.Computed.Least.{Links}
use Rattle.points.specs.declared.Asked.{Asked}
use Rattle.points.specs.Rows.{asks_at, Marked}

-- ---- each way through the tests
module _ (q : Asked) (ahead sets : List ℕ) (j : ℕ) (l : q.k ≤ j) where
  abbrev low : ℕ
  low = j - q.k

  pub asks_other : (bit_and (get_or ahead low 0) q.mask ≡ q.commands → ⊥) → false ≡ asks_at q ahead sets j
  unfolding asks_at both
  asks_other n = rw (le-leb q.k j l, ne_eqb (bit_and (get_or ahead low 0) q.mask) q.commands n)

  module _ (e : bit_and (get_or ahead low 0) q.mask ≡ q.commands) where
    same : eqb (bit_and (get_or ahead low 0) q.mask) q.commands ≡ true
    same = eq-eqb (bit_and (get_or ahead low 0) q.mask) q.commands e

    pub upper_fails : inside (get_or sets j 0) q.phi ≡ false → false ≡ asks_at q ahead sets j
    unfolding asks_at both
    upper_fails f = rw (le-leb q.k j l, same, f)

    pub lower_decides : (b : Bool) → inside (get_or sets j 0) q.phi ≡ true → b ≡ inside (get_or sets low 0) q.psi → b ≡ asks_at q ahead sets j
    unfolding asks_at both
    lower_decides b f g = rw (le-leb q.k j l, same, f) g

-- ---- item a in the rows of the points below j
pub record Marking (q : Asked) (ahead sets : List ℕ) (a j : ℕ) (rows rows' : List ℕ) : Type 0 where
  pub size : length rows' ≡ 33
  pub done : (l : ℕ) → l < j → get_or rows' l 0 ≡ pick (asks_at q ahead sets l) (added (get_or rows l 0) a) (get_or rows l 0)
  pub left : (l : ℕ) → j ≤ l → get_or rows' l 0 ≡ get_or rows l 0

module _ (q : Asked) (ahead sets : List ℕ) (a : ℕ) (rows : List ℕ) where
  pub mark_start : length rows ≡ 33 → Marking q ahead sets a q.k rows rows
  unfolding asks_at both pick
  mark_start s = record { size = s; done = λ l h. rw (lt-leb q.k l h); left = λ l h. refl }

  module _ {j : ℕ} {rows' : List ℕ} (g : Marking q ahead sets a j rows rows') (b : Bool) (e : b ≡ asks_at q ahead sets j) where
    pub mark_out : b ≡ false → Marking q ahead sets a (j + 1) rows rows'
    unfolding pick
    mark_out f = record { size = g.size; done = done; left = λ l h. g.left l (omega arith) }
      where
        done : (l : ℕ) → l < j + 1 → get_or rows' l 0 ≡ pick (asks_at q ahead sets l) (added (get_or rows l 0) a) (get_or rows l 0)
        done l h = go (dec_lt l j)
          where
            go : Dec (l < j) → get_or rows' l 0 ≡ pick (asks_at q ahead sets l) (added (get_or rows l 0) a) (get_or rows l 0)
            go (yes y) = g.done l y
            go (no n) = let z : l ≡ j = omega arith in rw (z, sym e ∙ f) (g.left j (omega arith))

    pub mark_in : b ≡ true → j ≤ 32 → a < 64 → Marking q ahead sets a (j + 1) rows (set rows' j (bit_or (get_or rows' j 0) (1 * 2 ^ a % 2 ^ 64)))
    unfolding pick
    mark_in f u v =
        record {
          size = length-set rows' j new ∙ g.size;
          done = done;
          left = λ l h. get_or-set_other rows' j l new 0 (λ z. omega arith) ∙ g.left l (omega arith);
        }
      where
        new : ℕ
        new = bit_or (get_or rows' j 0) (1 * 2 ^ a % 2 ^ 64)

        done : (l : ℕ) → l < j + 1 → get_or (set rows' j new) l 0 ≡ pick (asks_at q ahead sets l) (added (get_or rows l 0) a) (get_or rows l 0)
        done l h = go (dec_lt l j)
          where
            go : Dec (l < j) → get_or (set rows' j new) l 0 ≡ pick (asks_at q ahead sets l) (added (get_or rows l 0) a) (get_or rows l 0)
            go (yes y) = get_or-set_other rows' j l new 0 (λ z. omega arith) ∙ g.done l y
            go (no n) =
                let z : l ≡ j = omega arith in
                rw (z, sym e ∙ f)
                (get_or-set_same rows' j new 0 (omega (arith, g.size)) ∙ added-here (get_or rows' j 0) a v
                ∙ ap (λ (x : ℕ). added x a) (g.left j (omega arith)))

  pub mark_end : {i j : ℕ} {rows' : List ℕ} → Marking q ahead sets a j rows rows' → i < j → Marked q ahead sets a i rows rows'
  mark_end g h = record { size = g.size; each = λ l b. g.done l (omega arith) }

-- ---- the first a items: their rows at the points up to i, the numbers of their forward commands and their prices
pub record Listed (R : Links) (i a : ℕ) (rows ks prices : List ℕ) : Type 0 where
  pub rows_size : length rows ≡ 33
  pub ks_size : length ks ≡ 64
  pub prices_size : length prices ≡ 64
  pub fits_are : (j : ℕ) → j ≤ i → (b : ℕ) → member (get_or rows j 0) b ≡ both (ltb b a) (R.fit b j)
  pub ks_are : (b : ℕ) → b < a → get_or ks b 0 ≡ R.k b
  pub prices_are : (b : ℕ) → b < a → get_or prices b 0 ≡ R.price b
  pub ks_fair : (b : ℕ) → b < a → (1 ≤ R.k b) × (R.k b ≤ 8)

pub none_listed : (R : Links) (i : ℕ) → i ≤ 32 → Listed R i 0 (replicate 33 0) (replicate 64 0) (replicate 64 0)
unfolding member both
none_listed R i l =
    record {
      rows_size = refl;
      ks_size = refl;
      prices_size = refl;
      fits_are = λ j h b. rw (get_or-replicate {A = ℕ} 33 j 0 0 (omega arith), zero-div (2 ^ b), le-ltb b 0 (omega arith));
      ks_are = λ b h. absurd (omega arith);
      prices_are = λ b h. absurd (omega arith);
      ks_fair = λ b h. absurd (omega arith);
    }

-- a row with item a
module _ (w a : ℕ) (l : a < 64) where
  added_is : added w a ≡ bit_or w (2 ^ a)
  unfolding added pick
  added_is = rw (lt-ltb a 64 l)

  added_self : member (added w a) a ≡ true
  added_self = rw added_is (one_more_member w a)

  added-other : (b : ℕ) → (b ≡ a → ⊥) → member (added w a) b ≡ member w b
  added-other b n = rw added_is (one_more_other w a b n)

  row_other : (t : Bool) (b : ℕ) → (b ≡ a → ⊥) → member (pick t (added w a) w) b ≡ member w b
  unfolding pick
  row_other true b n = added-other b n
  row_other false b n = refl

  row_self : (t : Bool) → member w a ≡ false → member (pick t (added w a) w) a ≡ t
  unfolding pick
  row_self true e = added_self
  row_self false e = e

  row_next : (t : Bool) (f : ℕ → Bool) (b : ℕ) → t ≡ f a → member w b ≡ both (ltb b a) (f b)
      → member (pick t (added w a) w) b ≡ both (ltb b (a + 1)) (f b)
  unfolding both
  row_next t f b e h = go (dec_lt b a) (dec_lt a b)
    where
      go : Dec (b < a) → Dec (a < b) → member (pick t (added w a) w) b ≡ both (ltb b (a + 1)) (f b)
      go (yes y) d = rw (lt-ltb b (a + 1) (omega arith)) (row_other t b (λ z. omega arith) ∙ h ∙ rw (lt-ltb b a y))
      go (no n) (yes y) = rw (le-ltb b (a + 1) (omega arith)) (row_other t b (λ z. omega arith) ∙ h ∙ rw (le-ltb b a (omega arith)))
      go (no n) (no m) =
          let z : b ≡ a = omega arith in
          let none : member w a ≡ false = ap (member w) (sym z) ∙ h ∙ rw (le-ltb b a (omega arith)) in
          rw (lt-ltb b (a + 1) (omega arith), z) (row_self t none ∙ e)

-- one item more
pub one_listed : (R : Links) (i a k r : ℕ) {rows rows' ks prices : List ℕ} (q : Asked) (ahead sets : List ℕ) → a < 64 → Listed R i a rows ks prices
    → Marked q ahead sets a i rows rows' → ((j : ℕ) → j ≤ i → asks_at q ahead sets j ≡ R.fit a j) → k ≡ R.k a → r ≡ R.price a
    → (1 ≤ k) × (k ≤ 8) → Listed R i (a + 1) rows' (set ks a k) (set prices a r)
one_listed R i a k r {rows} {rows'} {ks} {prices} q ahead sets l g m fit p c fair =
    record {
      rows_size = m.size;
      ks_size = length-set ks a k ∙ g.ks_size;
      prices_size = length-set prices a r ∙ g.prices_size;
      fits_are = λ j h b.
          ap (λ (w : ℕ). member w b) (m.each j h)
          ∙ row_next (get_or rows j 0) a l (asks_at q ahead sets j) (λ x. R.fit x j) b (fit j h) (g.fits_are j h b);
      ks_are = numbers ks k R.k (omega (arith, g.ks_size)) p g.ks_are;
      prices_are = numbers prices r R.price (omega (arith, g.prices_size)) c g.prices_are;
      ks_fair = λ b h. go b h (dec_lt b a);
    }
  where
    go : (b : ℕ) → b < a + 1 → Dec (b < a) → (1 ≤ R.k b) × (R.k b ≤ 8)
    go b h (yes q) = g.ks_fair b q
    go b h (no q) = let e : b ≡ a = omega arith in let z = ap R.k e in (omega (arith, p, z, fair.0), omega (arith, p, z, fair.1))

    numbers : (xs : List ℕ) (v : ℕ) (f : ℕ → ℕ) → a < length xs → v ≡ f a → ((b : ℕ) → b < a → get_or xs b 0 ≡ f b)
        → (b : ℕ) → b < a + 1 → get_or (set xs a v) b 0 ≡ f b
    numbers xs v f l e h b u = go (dec_lt b a)
      where
        go : Dec (b < a) → get_or (set xs a v) b 0 ≡ f b
        go (yes y) = get_or-set_other xs a b v 0 (λ z. omega arith) ∙ h b y
        go (no n) = let z : b ≡ a = omega arith in rw z (get_or-set_same xs a v 0 l ∙ e)
