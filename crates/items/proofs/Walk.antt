-- The ways to the first item and from item to item: what is left of a book's records stands where the walk is. Assumes nothing.
use mathlib.Core.Path.{◌≡◌, refl, ap, ◌∙◌}
use mathlib.Core.Bool.{Bool, true, false}
use mathlib.Core.List.{List, [], ◌∷◌, ◌++◌, map}
use Prim.Native.Nat.{ℕ, suc, ◌+◌, ◌^◌, ◌≤◌, ◌<◌}
use native.Mathlib.Omega.{arith}
use native.Mathlib.Decide.{dec_lt}
use borrow.Author.Tests.{eqb-true, eqb-false}
use lib.Dec.{eqb}
use lib.ListN.{length, get_or, set, drop, length-drop, length-append, drop_of_length-le}
use lib.Seq.{drop-drop, drop-cons, get_or-drop, get_or-set_same, get_or-set_other}
use Rattle.reversal.specs.Reversal.{Item}
use Rattle.reversal.specs.Chains.{absent, item}
use Rattle.octets.specs.Le.{bytes_le}
use Rattle.octets.specs.Parts.{le, le_at}
use Rattle.book.specs.Book.{Move, Book, AllowedBook, Rec, frame, framed, move_rec, item_rec, bytes_of, items_of}
use Rattle.octets.proofs.Le.{length-bytes_le}
use Rattle.book.proofs.Bodies.{first-eight}
use Rattle.book.proofs.Scanning.{length-frame}
use Rattle.std.specs.Prelude.{Some, None}
use Rattle.items.specs.declared.Parts.{Parts}
use Rattle.items.specs.Items.{MovesBegin, Begins, ItemStands, ItemComes, MoveComes}

-- ---- the kind of a record
module _ (s : List ℕ) (at : ℕ) where
  pub kind_at : (r : Rec) (t : List ℕ) → drop at s ≡ frame r ++ t → le_at 2 s (at + 2) ≡ le (bytes_le 2 r.kind)
  unfolding frame bytes_le
  kind_at r t e = rw (← drop-drop 2 at s, e)

  pub no_kind : drop at s ≡ [] → le_at 2 s (at + 2) ≡ 0
  no_kind e = rw (← drop-drop 2 at s, e)

  pub past-move : (x : Move) (t : List ℕ) → drop at s ≡ frame (move_rec x) ++ t → drop (at + 14) s ≡ t
  unfolding frame bytes_le
  past-move x t e = rw (← drop-drop 14 at s, e)

-- ---- a move's record
module _ (s : List ℕ) (at : ℕ) (x : Move) (t : List ℕ) (e : drop at s ≡ frame (move_rec x) ++ t) where
  pub state_at : get_or s (at + 4) 0 ≡ x.state
  unfolding frame bytes_le
  state_at = rw (← get_or-drop at s 4 0, e)

  pub command_at_lem : get_or s (at + 5) 0 ≡ x.command
  unfolding frame bytes_le
  command_at_lem = rw (← get_or-drop at s 5 0, e)

  pub mask_at_lem : x.mask < 256 ^ 8 → le_at 8 s (at + 6) ≡ x.mask
  unfolding frame bytes_le
  mask_at_lem h = rw (← drop-drop 6 at s, e) (first-eight x.mask t h)

  pub move-inside : at + 14 ≤ length s
  move-inside =
      omega (arith, length-drop at s, ap length e, length-append (frame (move_rec x)) t, length-frame (move_rec x), length-bytes_le 8 x.mask)

pub no_move : (items : List Item) (s : List ℕ) (at : ℕ) → drop at s ≡ framed (map item_rec items) → le_at 2 s (at + 2) ≡ 2 → ⊥
unfolding bytes_le
no_move [] s at e k = omega (arith, no_kind s at e)
no_move (x ∷ xs) s at e k = omega (arith, kind_at s at (item_rec x) (framed (map item_rec xs)) e)

-- where no whole record of a move stands, none is left
pub none_left : (left : List Move) (items : List Item) (s : List ℕ) (at : ℕ) → drop at s ≡ framed (map move_rec left ++ map item_rec items)
    → (at + 14 ≤ length s → le_at 2 s (at + 2) ≡ 2 → ⊥) → left ≡ []
unfolding bytes_le
none_left [] items s at e k = refl
none_left (x ∷ xs) items s at e k =
    let t = framed (map move_rec xs ++ map item_rec items) in
    absurd (k (move-inside s at x t e) (kind_at s at (move_rec x) t e))

-- ---- to the first item: the moves that are left
pub record Before (s : List ℕ) (b : Book) (at : ℕ) : Type 0 where
  pub left : List Move
  pub rest : drop at s ≡ framed (map move_rec left ++ map item_rec (items_of b))

pub at_moves : {s : List ℕ} {b : Book} {at : ℕ} → MovesBegin s b at → Before s b at
at_moves {b = b} e = record { left = b.moves; rest = e }

module _ {s : List ℕ} {b : Book} {at : ℕ} (g : Before s b at) where
  pub next-move : le_at 2 s (at + 2) ≡ 2 → Before s b (at + 14)
  next-move k = go g.left g.rest
    where
      go : (left : List Move) → drop at s ≡ framed (map move_rec left ++ map item_rec (items_of b)) → Before s b (at + 14)
      go [] r = absurd (no_move (items_of b) s at r k)
      go (x ∷ xs) r = record { left = xs; rest = past-move s at x (framed (map move_rec xs ++ map item_rec (items_of b))) r }

  pub past_moves : (at + 14 ≤ length s → le_at 2 s (at + 2) ≡ 2 → ⊥) → Begins s b 0 at
  past_moves k = rw (none_left g.left (items_of b) s at g.rest k) at g.rest

-- the walk of `MoveRecords`
module _ {s u u' : List ℕ} {b : Book} {at at' : ℕ} (same : u ≡ s) (g : Before s b at) where
  pub move-comes : {x : ℕ} → MoveComes u at (Some x) u' at' → Before s b at'
  move-comes m = rw m.1.3 (next-move g (rw same at m.1.2))

  pub none-comes : MoveComes u at None u' at' → Begins s b 0 at'
  none-comes m = rw m.1.1 (past_moves g (rw same at m.1.0))

-- ---- from item to item: item i stands where the walk is
module _ {s : List ℕ} {b : Book} {i at : ℕ} (a : AllowedBook b) (e : bytes_of b ≡ s) (known : i ≤ length (items_of b)) (here : Begins s b i at) where
  -- where bytes are left there is an item, and where none are there is none
  pub one_more : at < length s → ItemStands s b i at
  one_more h = record { allowed = a; bytes = e; known = go (dec_lt i (length (items_of b))); begins = here }
    where
      go : Dec (i < length (items_of b)) → i < length (items_of b)
      go (yes l) = l
      go (no l) =
          let past : length (items_of b) ≤ i = omega arith in
          let none : drop i (items_of b) ≡ [] = drop_of_length-le (items_of b) past in
          let f : length (drop at s) ≡ 0 = ap length here ∙ ap (λ (l : List Item). length (framed (map item_rec l))) none in
          absurd (omega (arith, length-drop at s))

  pub all_passed : length s ≤ at → i ≡ length (items_of b)
  all_passed h = go (dec_lt i (length (items_of b)))
    where
      go : Dec (i < length (items_of b)) → i ≡ length (items_of b)
      go (no l) = omega arith
      go (yes l) =
          let x = item (items_of b) i in
          let t = framed (map item_rec (drop (suc i) (items_of b))) in
          let f : length (drop at s) ≡ length (frame (item_rec x) ++ t) =
          ap length (here ∙ ap (λ (l : List Item). framed (map item_rec l)) (drop-cons (items_of b) i absent l)) in
          absurd (omega (arith, length-drop at s, length-append (frame (item_rec x)) t, length-frame (item_rec x)))

-- ---- the places of the items passed: i of them, and the next record at `at`
pub record Passed (s : List ℕ) (b : Book) (places : List ℕ) (i at : ℕ) : Type 0 where
  pub known : i ≤ length (items_of b)
  pub here : Begins s b i at
  pub before : (j : ℕ) → j < i → Begins s b j (get_or places j 0)

pub none_passed : {s : List ℕ} {b : Book} {places : List ℕ} {at : ℕ} → Begins s b 0 at → Passed s b places 0 at
none_passed e = record { known = omega arith; here = e; before = λ j h. absurd (omega arith) }

module _ {s : List ℕ} {b : Book} {places : List ℕ} {i at : ℕ} (a : AllowedBook b) (e : bytes_of b ≡ s) (w : Passed s b places i at) where
  pub one_passed : {next : ℕ} → (ItemStands s b i at → Begins s b (i + 1) next) → at < length s → i < length places
      → Passed s b (set places i at) (i + 1) next
  one_passed f h l =
      let x = one_more a e w.known w.here h in
      record { known = omega (arith, x.known); here = f x; before = λ j k. go j k (eqb j i) refl }
    where
      go : (j : ℕ) → j < i + 1 → (t : Bool) → eqb j i ≡ t → Begins s b j (get_or (set places i at) j 0)
      go j k true q =
          let z : j ≡ i = eqb-true j i q in
          rw z (ap (λ (y : ℕ). drop y s) (get_or-set_same places i at 0 l) ∙ w.here)
      go j k false q =
          let n = eqb-false j i q in
          ap (λ (y : ℕ). drop y s) (get_or-set_other places i j at 0 n) ∙ w.before j (omega arith)

  -- the end of the book, or 64 items
  pub ends_passed : length s ≤ at → (j : ℕ) → j < length (items_of b) → Begins s b j (get_or places j 0)
  ends_passed h j k = w.before j (omega (arith, all_passed a e w.known w.here h))

  pub most_passed : 64 ≤ i → (j : ℕ) → j < length (items_of b) → Begins s b j (get_or places j 0)
  most_passed h j k = w.before j (omega (arith, a.few))

-- the walk of `ItemRecords`, of which n more records are taken
module _ {s u u' places : List ℕ} {b : Book} {i at at' : ℕ} (a : AllowedBook b) (e : bytes_of b ≡ s) (same : u ≡ s) (w : Passed s b places i at) where
  pub item-comes : {p : ℕ} {x : Parts} → ItemComes u at (Some (p, x)) u' at' → i < length places → Passed s b (set places i p) (i + 1) at'
  item-comes m l =
      let o = rw same at m.1.2 in
      rw (m.1.1, m.1.3) (one_passed a e w o.next (rw same at m.1.0) l)

  pub no_item : (n : ℕ) → i + n ≡ 64 → (0 < n → ItemComes u at None u' at') → (j : ℕ) → j < length (items_of b) → Begins s b j (get_or places j 0)
  no_item n c f = go (dec_lt 0 n)
    where
      go : Dec (0 < n) → (j : ℕ) → j < length (items_of b) → Begins s b j (get_or places j 0)
      go (yes l) = ends_passed a e w (rw same at (f l).1.0)
      go (no l) = most_passed a e w (omega arith)
