-- The pass that judges a book's bytes sums up its items: what is left of its records, the items' units and the longest reverse give the whole.
-- Assumes nothing.
use mathlib.Core.Path.{◌≡◌, refl, sym, ap, ◌∙◌, subst}
use mathlib.Core.Bool.{Bool, true, false}
use mathlib.Core.Logic.{⊎_elim}
use mathlib.Core.List.{List, [], ◌∷◌, ◌++◌, map, append_assoc}
use Prim.Native.Nat.{ℕ, max, ◌+◌, ◌*◌, ◌^◌, ◌≤◌, ◌<◌}
use native.Mathlib.Nat.{zero-add, mul-le-mul}
use native.Mathlib.Numerals.{add-one}
use native.Mathlib.Omega.{arith}
use lib.Count.{ones, ones-le}
use lib.Dec.{eqb, ltb→lt}
use borrow.Author.Tests.{eqb-true, eqb-false}
use lib.ListN.{length, drop, length-drop}
use lib.Seq.{drop-drop, drop-cons, drop_at}
use Rattle.base.specs.Lists.{Each}
use Rattle.base.specs.Masks.{clear_from}
use Rattle.base.specs.Compare.{less}
use Rattle.base.proofs.Compare.{less_on, less_off}
use Rattle.base.proofs.Picks.{pick_elim}
use Rattle.base.proofs.Parts.{each_append}
use Rattle.base.proofs.Masks.{clear↔}
use Rattle.base.proofs.Present.{cardinality-ones}
use Rattle.reversal.specs.Reversal.{Item}
use Rattle.reversal.specs.Chains.{absent, item}
use Rattle.reversal.specs.Units.{item_units, sum_units}
use Rattle.reversal.specs.Computed.Units.{larger, largest_from}
use Rattle.reversal.proofs.Sizes.{larger-is}
use Rattle.octets.specs.Le.{bytes_le}
use Rattle.octets.specs.Parts.{le_at}
use Rattle.octets.proofs.Le.{le-bytes_le}
use Rattle.book.specs.Book.{Move, Book, AllowedBook, Rec, frame, framed, device_rec, weights_recs, move_rec, item_rec, records_of, bytes_of, items_of}
use Rattle.book.specs.Refusal.{Small}
use Rattle.book.specs.declared.State.{State}
use Rattle.book.specs.Parse.{cut}
use Rattle.book.specs.Parse.Row.{End, More}
use Rattle.book.proofs.Weights.{weights_elim}
use Rattle.book.proofs.Cut.{AllSmall, cut-frame}
use Rattle.book.proofs.Scanning.{length-frame, small_records}
use Rattle.items.specs.declared.Parts.{Parts}
use Rattle.items.specs.Items.{ItemStands, held_in, PartsAt}
use Rattle.items.proofs.Laws.{allowed, item_is, k-held, r_held}
use Rattle.items.proofs.Walk.{kind_at, no_kind}
use Rattle.reader.specs.declared.units.Tally.{Tally}
use Rattle.reader.specs.Passing.{Passing}
use Rattle.reader.specs.Passing.Passing.{none, one}
use Rattle.reader.specs.Summing.{Within, with_item, Tallied, SumsOf}

-- ---- one record
module _ (s : List ℕ) (at : ℕ) (r : Rec) (t : List ℕ) (e : drop at s ≡ frame r ++ t) (h : Small r) where
  length_at : le_at 2 s at ≡ length r.body
  unfolding frame bytes_le
  length_at = rw e (le-bytes_le 2 (length r.body) h.two_length)

  -- what follows it
  past_record : drop (at + 4 + le_at 2 s at) s ≡ t
  past_record =
      let p : at + 4 + le_at 2 s at ≡ at + length (frame r) = omega (arith, length_at, length-frame r) in
      ap (λ (k : ℕ). drop k s) p ∙ sym (drop-drop (length (frame r)) at s) ∙ ap (drop (length (frame r))) e ∙ drop_at (frame r) t (length (frame r)) refl

  kind_is : le_at 2 s (at + 2) ≡ r.kind
  kind_is = kind_at s at r t e ∙ le-bytes_le 2 r.kind h.two_kind

-- ---- what it adds
larger-max : (a b : ℕ) → max a b ≡ larger a b
unfolding larger
larger-max a b = pick_elim (λ (x : ℕ). max a b ≡ x) (less a b) b a (λ t. omega (arith, less_on a b t)) (λ t. omega (arith, less_off a b t))

-- 64 states at most, 255 forward and 255 reverse commands, for any bytes
pub ones-most : (w : ℕ) → w < 2 ^ 64 → ones w ≤ 64
ones-most w h = ones-le 64 w h

pub product_most : (w k r : ℕ) → w < 2 ^ 64 → k < 256 → r < 256 → ones w * (k + r) ≤ 32640
product_most w k r h a b = mul-le-mul {n₂ = 64} {m₂ = 510} (ones-most w h) (omega arith)

module _ (s : List ℕ) (at : ℕ) (t : Tally) (h : Within t) where
  pub adds_nothing : (le_at 2 s (at + 2) ≡ 3 → ⊥) → Tallied s at t t
  adds_nothing f = record { within = h; other = λ _. refl; item_is = λ k. absurd (f k) }

  -- a book has no item past 64
  pub no_further : 64 ≤ t.count → Tallied s at t t
  no_further l = record { within = h; other = λ _. refl; item_is = λ k q. absurd (omega (arith, q.known, q.allowed.few)) }

  module _ (p : Parts) (c : PartsAt s at p) (psi : ℕ) (is : psi ≡ (held_in s p).psi) (fits : psi < 2 ^ 64) where
    units_is : {b : Book} → (q : ItemStands s b t.count at) → ones psi * (p.k + p.r) ≡ item_units b.n (item (items_of b) t.count)
    unfolding clear_from
    units_is {b} q =
        let x = item (items_of b) t.count in
        let e : psi ≡ x.psi = is ∙ ap (λ (y : Item). y.psi) (c.held ∙ item_is q) in
        let l = ltb→lt x.psi (2 ^ b.n) ((clear↔ b.n x.psi).1 (allowed q).psi_states) in
        rw (k-held c, r_held c, item_is q, e, ← cardinality-ones b.n x.psi l)

    pub adds_item : le_at 2 s (at + 2) ≡ 3 → t.count < 64 → (l : ℕ) → l ≡ max t.longest p.r
        → Tallied s at t (record { count = t.count + 1; units = t.units + ones psi * (p.k + p.r); longest = l })
    adds_item k few l f =
        let e : l ≡ larger t.longest p.r = f ∙ larger-max t.longest p.r in
        record {
          within =
              record {
                few = omega arith;
                units_high = omega (arith, h.units_high, product_most psi p.k p.r fits c.k_byte c.r_byte);
                longest_high = rw e (⊎_elim (λ (z : larger t.longest p.r ≡ t.longest). rw z h.longest_high)
                    (λ (z : larger t.longest p.r ≡ p.r). rw z c.r_byte) (larger-is t.longest p.r));
              };
          other = λ f. absurd (f k);
          item_is = λ _ {b} q. rw (units_is q, e, r_held c, item_is q);
        }

-- ---- the pass
abbrev NoItem : Rec → Type 0
NoItem r = r.kind ≡ 3 → ⊥

-- the items that are left
abbrev items_left : Book → Tally → List Item
items_left b t = drop t.count (items_of b)

pub record Summing (s : List ℕ) (b : Book) (at : ℕ) (t : Tally) : Type 0 where
  pub left : List Rec
  pub others : Each NoItem left
  pub small : AllSmall (left ++ map item_rec (items_left b t))
  pub rest : drop at s ≡ framed (left ++ map item_rec (items_left b t))
  pub known : t.count ≤ length (items_of b)
  pub units_left : t.units + sum_units b.n (items_left b t) ≡ sum_units b.n (items_of b)
  pub longest-left : largest_from t.longest (items_left b t) ≡ largest_from 0 (items_of b)

pub summing : (s : List ℕ) (b : Book) → AllowedBook b → bytes_of b ≡ s → Summing s b 0 (record { count = 0; units = 0; longest = 0 })
summing s b a e =
    record {
      left = device_rec b.n b.m ∷ (W ++ M);
      others = ((λ z. omega arith), each_append NoItem W M weights (moves b.moves));
      small = subst AllSmall all (small_records b a);
      rest = sym e ∙ ap framed all;
      known = omega arith;
      units_left = zero-add (sum_units b.n (items_of b));
      longest-left = refl;
    }
  where
    W : List Rec
    W = weights_recs b.weights

    M : List Rec
    M = map move_rec b.moves

    I : List Rec
    I = map item_rec (items_of b)

    all : records_of b ≡ device_rec b.n b.m ∷ ((W ++ M) ++ I)
    all = ap (λ (rs : List Rec). device_rec b.n b.m ∷ rs) (sym (append_assoc W M I))

    weights : Each NoItem W
    weights = weights_elim (Each NoItem) b.weights (λ _. tt) (λ _. ((λ z. omega arith), tt))

    moves : (xs : List Move) → Each NoItem (map move_rec xs)
    moves [] = tt
    moves (x ∷ xs) = ((λ z. omega arith), moves xs)

module _ {s : List ℕ} {b : Book} {at : ℕ} {t : Tally} (g : Summing s b at t) where
  -- the record at the place is no item
  other_passed : (le_at 2 s (at + 2) ≡ 3 → ⊥) → at < length s → Summing s b (at + 4 + le_at 2 s at) t
  other_passed k l = go g.left g.others g.small g.rest
    where
      none : (xs : List Item) → AllSmall (map item_rec xs) → drop at s ≡ framed (map item_rec xs) → ⊥
      none [] h e = omega (arith, length-drop at s, ap length e)
      none (x ∷ xs) h e = k (kind_is s at (item_rec x) (framed (map item_rec xs)) e h.0)

      go : (left : List Rec) → Each NoItem left → AllSmall (left ++ map item_rec (items_left b t)) → drop at s ≡ framed (left ++ map item_rec (items_left b t))
          → Summing s b (at + 4 + le_at 2 s at) t
      go [] o h e = absurd (none (items_left b t) h e)
      go (r ∷ rs) o h e =
          record {
            left = rs;
            others = o.1;
            small = h.1;
            rest = past_record s at r (framed (rs ++ map item_rec (items_left b t))) e h.0;
            known = g.known;
            units_left = g.units_left;
            longest-left = g.longest-left;
          }

  -- it is an item
  module _ (a : AllowedBook b) (same : bytes_of b ≡ s) (k : le_at 2 s (at + 2) ≡ 3) where
    none_before : g.left ≡ []
    none_before = go g.left g.others g.small g.rest
      where
        go : (left : List Rec) → Each NoItem left → AllSmall (left ++ map item_rec (items_left b t)) → drop at s ≡ framed (left ++ map item_rec (items_left b t))
            → left ≡ []
        go [] o h e = refl
        go (r ∷ rs) o h e = absurd (o.0 (sym (kind_is s at r (framed (rs ++ map item_rec (items_left b t))) e h.0) ∙ k))

    begins : drop at s ≡ framed (map item_rec (items_left b t))
    begins = g.rest ∙ ap (λ (l : List Rec). framed (l ++ map item_rec (items_left b t))) none_before

    item_stands : ItemStands s b t.count at
    item_stands = record { allowed = a; bytes = same; known = one_left (items_left b t) refl begins; begins = begins }
      where
        one_left : (xs : List Item) → items_left b t ≡ xs → drop at s ≡ framed (map item_rec xs) → t.count < length (items_of b)
        one_left [] e q = absurd (omega (arith, no_kind s at q))
        one_left (x ∷ xs) e q = omega (arith, length-drop t.count (items_of b), ap length e)

    item_passed : (t' : Tally) → t' ≡ with_item b.n (item (items_of b) t.count) t → Summing s b (at + 4 + le_at 2 s at) t'
    unfolding largest_from
    item_passed t' e = subst (λ (z : Tally). Summing s b (at + 4 + le_at 2 s at) z) (sym e) next
      where
        x : Item
        x = item (items_of b) t.count

        after : List Item
        after = drop (t.count + 1) (items_of b)

        cons : items_left b t ≡ x ∷ after
        cons = rw add-one (drop-cons (items_of b) t.count absent item_stands.known)

        small : AllSmall (map item_rec (x ∷ after))
        small =
            subst (λ (xs : List Item). AllSmall (map item_rec xs)) cons (subst (λ (l : List Rec). AllSmall (l ++ map item_rec (items_left b t))) none_before g.small)

        next : Summing s b (at + 4 + le_at 2 s at) (with_item b.n x t)
        next =
            record {
              left = [];
              others = tt;
              small = small.1;
              rest =
                  past_record s at (item_rec x) (framed (map item_rec after)) (begins ∙ ap (λ (xs : List Item). framed (map item_rec xs)) cons) small.0;
              known = omega (arith, item_stands.known);
              units_left = omega (arith, g.units_left, ap (sum_units b.n) cons);
              longest-left = sym (ap (largest_from t.longest) cons) ∙ g.longest-left;
            }

  -- no record is left
  module _ (e : cut (drop at s) ≡ End) where
    none_at_end : items_left b t ≡ []
    none_at_end = go g.left (items_left b t) g.small g.rest
      where
        framed-end : (r : Rec) (u : List ℕ) → Small r → drop at s ≡ frame r ++ u → ⊥
        framed-end r u h q =
            let c : More r (cut u) ≡ End = sym (cut-frame r u h) ∙ (ap cut (sym q) ∙ e) in
            let z : ◌≡◌ {A = ℕ} 0 1 = cc in
            omega arith

        go : (left : List Rec) (xs : List Item) → AllSmall (left ++ map item_rec xs) → drop at s ≡ framed (left ++ map item_rec xs) → xs ≡ []
        go [] [] h q = refl
        go [] (x ∷ xs) h q = absurd (framed-end (item_rec x) (framed (map item_rec xs)) h.0 q)
        go (r ∷ rs) xs h q = absurd (framed-end r (framed (rs ++ map item_rec xs)) h.0 q)

    pub all_units : t.units ≡ sum_units b.n (items_of b)
    all_units = omega (arith, g.units_left, ap (sum_units b.n) none_at_end)

    all-longest : t.longest ≡ largest_from 0 (items_of b)
    unfolding largest_from
    all-longest = sym (ap (largest_from t.longest) none_at_end) ∙ g.longest-left

-- on from a record that the judgement goes past
pub passed : {s : List ℕ} {b : Book} {at : ℕ} {t : Tally} → AllowedBook b → bytes_of b ≡ s → Summing s b at t → at < length s → (t' : Tally) → Tallied s at t t'
    → Summing s b (at + 4 + le_at 2 s at) t'
passed {s} {b} {at} {t} a e g l t' c = go (eqb (le_at 2 s (at + 2)) 3) refl
  where
    go : (y : Bool) → eqb (le_at 2 s (at + 2)) 3 ≡ y → Summing s b (at + 4 + le_at 2 s at) t'
    go true q =
        let k = eqb-true (le_at 2 s (at + 2)) 3 q in
        item_passed g a e k t' (c.item_is k (item_stands g a e k))
    go false q =
        let f = eqb-false (le_at 2 s (at + 2)) 3 q in
        subst (λ (z : Tally). Summing s b (at + 4 + le_at 2 s at) z) (sym (c.other f)) (other_passed g f l)

-- past moves, which add nothing
pub moves_passed : {s : List ℕ} {b : Book} {from : ℕ} {st : State} {at : ℕ} {after : State} {t : Tally} → Passing s from st at after → Summing s b from t → Summing s b at t
moves_passed none g = g
moves_passed {s} {b} {t = t} (one {at} p l m h) g =
    let e : at + 4 + le_at 2 s at ≡ at + 14 = omega (arith, m.length_is) in
    subst (λ (k : ℕ). Summing s b k t) e (other_passed (moves_passed p g) (λ z. omega (arith, m.kind_is)) (omega arith))

-- at the end of the pass
pub summed : (s : List ℕ) (at : ℕ) (t : Tally) (end : State) → Within t → ((b : Book) → AllowedBook b → bytes_of b ≡ s → Summing s b at t)
    → cut (drop at s) ≡ End → SumsOf s (record { end = end; units = t.units; longest = t.longest })
summed s at t end h g n =
    record { longest_high = h.longest_high; units_are = λ b a q. all_units (g b a q) n; longest_is = λ b a q. all-longest (g b a q) n }
