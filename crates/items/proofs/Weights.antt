-- The record of weights in a book's bytes, or none: each command's weight, and where the moves begin. Assumes nothing.
use mathlib.Core.Path.{◌≡◌, refl, sym, ap, ◌∙◌}
use mathlib.Core.Bool.{Bool, true, false}
use mathlib.Core.List.{List, [], ◌∷◌, ◌++◌, map}
use Prim.Native.Nat.{ℕ, zero, suc, ◌+◌, ◌*◌, ◌<◌}
use native.Mathlib.Omega.{arith}
use lib.ListN.{length, get_or, take, drop, get_or-replicate}
use lib.Seq.{drop-drop, drop_at}
use Rattle.base.specs.Lists.{Each}
use Rattle.base.proofs.Parts.{each_map}
use Rattle.reversal.specs.Reversal.{Item}
use Rattle.octets.specs.Le.{bytes_le}
use Rattle.octets.specs.Parts.{le, le_at}
use Rattle.book.specs.Book.{Move, Book, AllowedBook, frame, framed, two_bytes, weights_rec, all_one, weights_recs, move_rec, item_rec, bytes_of, items_of}
use Rattle.book.proofs.Bodies.{weights_length}
use Rattle.book.proofs.Weights.{ones_are, none_of_ones, one_of_others}
use Rattle.book.proofs.Scanning.{length-frame}
use Rattle.items.specs.Items.{WeightAt, FirstMove}
use Rattle.items.proofs.Walk.{kind_at, no_kind}

-- ---- two bytes for each weight
two_at : (ws t : List ℕ) (c : ℕ) → c < length ws → Each (λ w. w < 65536) ws → le_at 2 (two_bytes ws ++ t) (2 * c) ≡ get_or ws c 0
unfolding two_bytes bytes_le
two_at [] t c l h = absurd (omega arith)
two_at (w ∷ ws) t zero l h = omega arith
two_at (w ∷ ws) t (suc c) l h =
    let e : 2 * suc c ≡ suc (suc (2 * c)) = omega arith in
    rw e (two_at ws t c (omega arith) h.1)

-- where every weight is 1
one_at : (ws : List ℕ) (c : ℕ) → c < length ws → all_one ws ≡ true → get_or ws c 0 ≡ 1
one_at ws c l h = ap (λ (l : List ℕ). get_or l c 0) (ones_are ws h) ∙ get_or-replicate (length ws) c 1 0 l

-- no moves and items begin with a record of weights
not_five : (xs : List Move) (ys : List Item) (s : List ℕ) (at : ℕ) → drop at s ≡ framed (map move_rec xs ++ map item_rec ys) → le_at 2 s (at + 2) ≡ 5 → ⊥
unfolding bytes_le
not_five [] [] s at e k = omega (arith, no_kind s at e)
not_five [] (y ∷ ys) s at e k = omega (arith, kind_at s at (item_rec y) (framed (map item_rec ys)) e)
not_five (x ∷ xs) ys s at e k = omega (arith, kind_at s at (move_rec x) (framed (map move_rec xs ++ map item_rec ys)) e)

-- ---- what stands after the device
module _ (s : List ℕ) (b : Book) (a : AllowedBook b) (e : bytes_of b ≡ s) where
  abbrev rest : List ℕ
  rest = framed (map move_rec b.moves ++ map item_rec (items_of b))

  -- nothing but moves and items, and every weight is 1; or the record of weights
  data After : Type 0 where
    none : all_one b.weights ≡ true → drop 6 s ≡ rest → After
    some : drop 6 s ≡ frame (weights_rec b.weights) ++ rest → After

  after-device : drop 6 s ≡ framed (weights_recs b.weights ++ (map move_rec b.moves ++ map item_rec (items_of b)))
  unfolding frame bytes_le
  after-device = rw (← e)

  after : After
  after = go (all_one b.weights) refl
    where
      go : (t : Bool) → all_one b.weights ≡ t → After
      go true h = none h (rw (none_of_ones b.weights h) at after-device)
      go false h = some (rw (one_of_others b.weights h) at after-device)

  -- ---- 5 does not stand at 8
  module _ (k : le_at 2 s 8 ≡ 5 → ⊥) where
    plain : (all_one b.weights ≡ true) × (drop 6 s ≡ rest)
    unfolding bytes_le
    plain = go after
      where
        go : After → (all_one b.weights ≡ true) × (drop 6 s ≡ rest)
        go (none h r) = (h, r)
        go (some r) = absurd (k (kind_at s 6 (weights_rec b.weights) rest r))

  -- ---- 5 stands at 8
  module _ (k : le_at 2 s 8 ≡ 5) where
    weighted : drop 6 s ≡ frame (weights_rec b.weights) ++ rest
    weighted = go after
      where
        go : After → drop 6 s ≡ frame (weights_rec b.weights) ++ rest
        go (none h r) = absurd (not_five b.moves (items_of b) s 6 r k)
        go (some r) = r

    size_at : le_at 2 s 6 ≡ 2 * b.m
    unfolding frame bytes_le
    size_at = rw (weighted, weights_length b.weights, a.weighed.count) (omega (arith, a.device.m_high))

    moves_at : drop (10 + le_at 2 s 6) s ≡ rest
    moves_at =
        let r = weights_rec b.weights in
        let n : 10 + le_at 2 s 6 ≡ 6 + length (frame r) = omega (arith, size_at, length-frame r, weights_length b.weights, a.weighed.count) in
        rw n (sym (drop-drop (length (frame r)) 6 s) ∙ (ap (λ (l : List ℕ). drop (length (frame r)) l) weighted ∙ drop_at (frame r) rest (length (frame r)) refl))

    weights_at : drop 10 s ≡ two_bytes b.weights ++ rest
    unfolding frame bytes_le
    weights_at = sym (drop-drop 4 6 s) ∙ ap (λ (l : List ℕ). drop 4 l) weighted

    pub weight_in : (c : ℕ) → c < b.m → le_at 2 s (10 + 2 * c) ≡ get_or b.weights c 0
    weight_in c h =
        ap (λ (l : List ℕ). le (take 2 l)) (sym (drop-drop (2 * c) 10 s) ∙ ap (λ (l : List ℕ). drop (2 * c) l) weights_at)
        ∙ two_at b.weights rest c (omega (arith, a.weighed.count)) (each_map (λ w h. omega (arith, h.high)) b.weights a.weighed.each)

-- ---- the contracts, of the number x that stands at 8
module _ (s : List ℕ) (x : ℕ) (e : x ≡ le_at 2 s 8) where
  pub no_weights : (x ≡ 5 → ⊥) → (c : ℕ) → WeightAt s c 1
  no_weights k c =
      record {
        weight = λ b a q h.
            sym (one_at b.weights c (omega (arith, a.weighed.count)) (plain s b a q (λ z. k (e ∙ z))).0);
      }

  pub no_record : (x ≡ 5 → ⊥) → FirstMove s 6
  no_record k = record { begins = λ b a q. (plain s b a q (λ z. k (e ∙ z))).1 }

  pub some_weights : x ≡ 5 → (c r : ℕ) → r ≡ le_at 2 s (10 + 2 * c) → WeightAt s c r
  some_weights k c r f = record { weight = λ b a q h. f ∙ weight_in s b a q (sym e ∙ k) c h }

  pub some_record : x ≡ 5 → (n : ℕ) → n ≡ le_at 2 s 6 → FirstMove s (10 + n)
  some_record k n f = record { begins = λ b a q. rw f (moves_at s b a q (sym e ∙ k)) }
