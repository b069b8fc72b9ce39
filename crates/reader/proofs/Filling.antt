-- What is stored is the book's table, slots and weights: what is left of its moves, items and weights gives the whole. Assumes nothing.
use mathlib.Core.Path.{◌≡◌, refl, sym, ap, ap₂, ◌∙◌}
use mathlib.Core.List.{List, [], ◌∷◌, ◌++◌, map, append-nil}
use Prim.Native.Nat.{ℕ, min, ◌+◌, ◌*◌, ◌≤◌, ◌<◌}
use native.Mathlib.Decide.{dec_lt}
use native.Mathlib.Numerals.{add-one}
use native.Mathlib.Omega.{arith}
use lib.ListN.{length, get_or, set, drop, drop_of_length-le}
use lib.Seq.{sets, drop-cons}
use Rattle.std.specs.Prelude.{Some, None, Ok as On, Err}
use Rattle.base.specs.Lists.{Each}
use Rattle.octets.specs.Le.{bytes_le}
use Rattle.octets.specs.Parts.{le_at}
use Rattle.octets.proofs.Put.{sets_past, sets_append}
use Rattle.reversal.specs.Reversal.{Item}
use Rattle.reversal.specs.Chains.{absent, item}
use Rattle.book.specs.declared.State.{State}
use Rattle.book.specs.declared.fault.FaultAt.{FaultAt}
use Rattle.book.specs.Faults.{code_of}
use Rattle.book.specs.Book.{Move, Book, AllowedMove, AllowedBook, device_of, frame, framed, move_rec, item_rec, records_of, bytes_of, items_of, items_for}
use Rattle.book.specs.Parse.{Scan, Row, cut_after, cut, weights_in, moves_in, items_in, parse, scan, at_start}
use Rattle.book.specs.Parse.Row.{End}
use Rattle.book.specs.Parse.Parsed.{Ok, Refused}
use Rattle.book.specs.Lent.{slot_of, slots_bytes}
use Rattle.book.specs.Buffers.{zeroed, filled, table_of, slots_of, weights_left}
use Rattle.book.proofs.Fields.{mask_fits}
use Rattle.book.proofs.Cut.{onto}
use Rattle.book.proofs.Scanning.{cut-book, state_of}
use Rattle.book.proofs.Reading.{scan_whole, parse-fine}
use Rattle.book.proofs.Slots.{length-slot}
use Rattle.items.specs.declared.Parts.{Parts}
use Rattle.items.specs.Items.{MovesBegin, Begins, ItemStands, ItemComes, MoveComes}
use Rattle.slots.specs.Filled.{FilledFrom}
use Rattle.items.proofs.Laws.{allowed}
use Rattle.items.proofs.Walk.{past-move, state_at, command_at_lem, mask_at_lem, no_move, none_left, one_more, all_passed}
use Rattle.reader.specs.Reads.{done}
use Rattle.reader.specs.Filling.{move_stored, TableFilled}

-- ---- the device
module _ (s : List ℕ) (b : Book) (e : bytes_of b ≡ s) where
  pub n_at : get_or s 4 0 ≡ b.n
  unfolding frame bytes_le
  n_at = rw (← e)

  pub m_at : get_or s 5 0 ≡ b.m
  unfolding frame bytes_le
  m_at = rw (← e)

-- ---- the pass over the moves
pub record Entering (s : List ℕ) (b : Book) (whole : List ℕ) (at : ℕ) (table : List ℕ) : Type 0 where
  pub left : List Move
  pub allowed : Each (AllowedMove b.n b.m) left
  pub rest : drop at s ≡ framed (map move_rec left ++ map item_rec (items_of b))
  pub gives : filled b.m left table ≡ whole

pub entering : {s : List ℕ} {b : Book} {at : ℕ} (t : List ℕ) → AllowedBook b → MovesBegin s b at → Entering s b (filled b.m b.moves t) at t
entering {b = b} t a e = record { left = b.moves; allowed = a.each_move; rest = e; gives = refl }

table_is : (b : Book) (n m : ℕ) (t t' : List ℕ) → n ≡ b.n → m ≡ b.m → t' ≡ zeroed (n * m) t → filled b.m b.moves t' ≡ table_of b t
table_is b n m t t' p q z = ap (filled b.m b.moves) (z ∙ ap₂ (λ (x y : ℕ). zeroed (x * y) t) p q)

module _ {s : List ℕ} {b : Book} {whole : List ℕ} {at : ℕ} {table : List ℕ} (a : AllowedBook b) (g : Entering s b whole at table) where
  pub entered : (m : ℕ) (table' : List ℕ) → m ≡ b.m → le_at 2 s (at + 2) ≡ 2 → table' ≡ move_stored m s at table → Entering s b whole (at + 14) table'
  unfolding move_stored filled
  entered m table' h k e = go g.left g.allowed g.rest g.gives
    where
      go : (left : List Move) → Each (AllowedMove b.n b.m) left → drop at s ≡ framed (map move_rec left ++ map item_rec (items_of b))
          → filled b.m left table ≡ whole → Entering s b whole (at + 14) table'
      go [] al r w = absurd (no_move (items_of b) s at r k)
      go (x ∷ xs) al r w =
          let t = framed (map move_rec xs ++ map item_rec (items_of b)) in
          record {
            left = xs;
            allowed = al.1;
            rest = past-move s at x t r;
            gives =
                rw (e, h, state_at s at x t r, command_at_lem s at x t r, mask_at_lem s at x t r (mask_fits b.n x.mask a.device.n_high al.0.states)) w;
          }

-- no move is left
abbrev pub AllEntered : List ℕ → Book → List ℕ → ℕ → List ℕ → Type 0
AllEntered s b whole at table = (g : Entering s b whole at table) × (g.left ≡ [])

-- the walk of `MoveRecords`
module _ {s u u' : List ℕ} {b : Book} {whole : List ℕ} {at at' : ℕ} {table : List ℕ} (same : u ≡ s) (g : Entering s b whole at table) where
  pub move-entered : {x : ℕ} → AllowedBook b → MoveComes u at (Some x) u' at' → (m : ℕ) (table' : List ℕ) → m ≡ b.m
      → table' ≡ move_stored m s x table → Entering s b whole at' table'
  move-entered a c m table' h e = rw c.1.3 (entered a g m table' h (rw same at c.1.2) (rw c.1.0 at e))

  pub all-entered : MoveComes u at None u' at' → AllEntered s b whole at' table
  all-entered c = rw c.1.1 (g, none_left g.left (items_of b) s at g.rest (rw same at c.1.0))

pub table_filled : (s old table₀ table : List ℕ) (n m at : ℕ) → n ≡ get_or s 4 0 → m ≡ get_or s 5 0 → table₀ ≡ zeroed (n * m) old
    → ((b : Book) → AllowedBook b → bytes_of b ≡ s → AllEntered s b (filled b.m b.moves table₀) at table) → TableFilled s old table at
unfolding filled
table_filled s old table₀ table n m at p q z f =
    record {
      entries = λ b a e. let (g, none) = f b a e in (rw none at g.gives) ∙ table_is b n m old table₀ (p ∙ n_at s b e) (q ∙ m_at s b e) z;
      begins = λ b a e. let (g, none) = f b a e in rw none at g.rest;
    }

-- ---- the pass over the items
pub record Slotting (s : List ℕ) (b : Book) (whole : List ℕ) (at i : ℕ) (slots : List ℕ) : Type 0 where
  pub known : i ≤ length (items_for b)
  pub here : Begins s b i at
  pub gives : sets slots (34 * i) (slots_bytes (drop i (items_for b))) ≡ whole

pub slotting : (s : List ℕ) (b : Book) (first : ℕ) (slots : List ℕ) → Begins s b 0 first → Slotting s b (slots_of b slots) first 0 slots
slotting s b first slots q = record { known = omega arith; here = q; gives = refl }

module _ {s : List ℕ} {b : Book} {whole : List ℕ} {at i : ℕ} {slots : List ℕ} (a : AllowedBook b) (e : bytes_of b ≡ s) (g : Slotting s b whole at i slots) where
  pub stands : at < length s → ItemStands s b i at
  stands h = one_more a e g.known g.here h

  pub slotted : (h : at < length s) (next : ℕ) → Begins s b (i + 1) next → (slots' : List ℕ) → slots' ≡ sets slots (34 * i) (slot_of (item (items_for b) i))
      → Slotting s b whole next (i + 1) slots'
  unfolding slots_bytes
  slotted h next q slots' e =
      let x = item (items_for b) i in
      let l = (stands h).known in
      let rest = slots_bytes (drop (i + 1) (items_for b)) in
      let cons : drop i (items_for b) ≡ x ∷ drop (i + 1) (items_for b) = rw add-one (drop-cons (items_for b) i absent l) in
      record {
        known = omega arith;
        here = q;
        gives =
            ap (λ (d : List ℕ). sets d (34 * (i + 1)) rest) e
            ∙ sets_append slots (34 * i) (34 * (i + 1)) (slot_of x) rest (omega (arith, length-slot (device_of b) x (allowed (stands h))))
            ∙ ap (λ (xs : List Item). sets slots (34 * i) (slots_bytes xs)) (sym cons)
            ∙ g.gives;
      }

  pub no_more : length (items_for b) ≤ i → slots ≡ whole
  unfolding slots_bytes
  no_more past = let none : drop i (items_for b) ≡ [] = drop_of_length-le (items_for b) past in rw none at g.gives

  -- the walk of `ItemRecords`, of which n more records are taken
  module _ {u u' : List ℕ} {at' : ℕ} (same : u ≡ s) where
    pub item-slotted : {p : ℕ} {x : Parts} {slots' : List ℕ} → ItemComes u at (Some (p, x)) u' at' → FilledFrom s x slots i slots'
        → Slotting s b whole at' (i + 1) slots'
    item-slotted {slots' = slots'} c o =
        let h = rw same at c.1.0 in
        let parts = rw same at c.1.2 in
        rw c.1.3 (slotted h _ (parts.next (stands h)) slots' ((o at parts).slot (stands h)))

    pub all-slotted : (n : ℕ) → i + n ≡ 64 → (0 < n → ItemComes u at None u' at') → slots ≡ whole
    all-slotted n c f = go (dec_lt 0 n)
      where
        go : Dec (0 < n) → slots ≡ whole
        go (yes l) = no_more (omega (arith, all_passed a e g.known g.here (rw same at (f l).1.0)))
        go (no l) = no_more (omega (arith, a.few))

-- ---- the pass over the weights
pub record Weighing (b : Book) (whole : List ℕ) (command : ℕ) (weights : List ℕ) : Type 0 where
  pub gives : sets weights command (drop command b.weights) ≡ whole

pub weighing : (b : Book) (weights : List ℕ) → Weighing b (weights_left b weights) 0 weights
weighing b weights = record { gives = refl }

module _ {b : Book} {whole : List ℕ} {command : ℕ} {weights : List ℕ} (a : AllowedBook b) (g : Weighing b whole command weights) where
  pub weighed : command < b.m → (v : ℕ) → v ≡ get_or b.weights command 0 → (weights' : List ℕ) → weights' ≡ set weights command v
      → Weighing b whole (command + 1) weights'
  weighed h v e weights' s =
      record {
        gives =
            rw (s, e, add-one command)
            (ap (λ (l : List ℕ). sets weights command l) (sym (drop-cons b.weights command 0 (omega (arith, a.weighed.count)))) ∙ g.gives);
      }

  each_weighed : b.m ≤ command → weights ≡ whole
  each_weighed h =
      let past : length b.weights ≤ command = omega (arith, a.weighed.count) in
      let none : drop command b.weights ≡ [] = drop_of_length-le b.weights past in
      rw none at g.gives

  -- past the last weight, or past those that are lent
  pub all-weighed : command ≡ min b.m (length weights) → weights ≡ whole
  all-weighed h = go (dec_lt command b.m)
    where
      go : Dec (command < b.m) → weights ≡ whole
      go (yes l) = sym (sets_past weights command (drop command b.weights) (omega arith)) ∙ g.gives
      go (no l) = each_weighed (omega arith)

-- ---- a book that is read
pub record Found (s : List ℕ) (st : State) : Type 0 where
  pub book : Book
  pub parsed : parse s ≡ Ok book
  pub allowed : AllowedBook book
  pub bytes : bytes_of book ≡ s
  pub result : record { code = 0; place = 0; n = st.n; m = st.m; items = st.items } ≡ done book

pub found : (s : List ℕ) (st : State) → Each (λ x. x < 256) s → scan (cut s) 0 at_start ≡ On st → Found s st
unfolding parse cut_after
found s st b e =
    let x : Book = record { n = st.n; m = st.m; weights = weights_in st.m (cut s); moves = moves_in (cut s); items = items_in (cut s) } in
    let p : parse s ≡ Ok x = rw e in
    let (a, same) = parse-fine s x b p in
    record {
      book = x;
      parsed = p;
      allowed = a;
      bytes = same;
      result = rw (count_is x (sym e ∙ whole x a same));
    }
  where
    whole : (x : Book) → AllowedBook x → bytes_of x ≡ s → scan (cut s) 0 at_start ≡ On (state_of x)
    whole x a same =
        let row : cut (bytes_of x) ≡ onto (records_of x) End = ap cut (sym (append-nil (bytes_of x))) ∙ cut-book x [] a in
        ap (λ (r : Row). scan r 0 at_start) (sym (ap cut same) ∙ row) ∙ scan_whole x a

    count_is : (x : Book) → ◌≡◌ {A = Scan} (On st) (On (state_of x)) → st.items ≡ length (items_for x)
    count_is x q = let y : st ≡ state_of x = cc in ap (λ (z : State). z.items) y

-- a book that is refused
pub refused : (s : List ℕ) (f : FaultAt) → scan (cut s) 0 at_start ≡ Err f → parse s ≡ Refused (code_of f.fault) f.place
unfolding parse
refused s f e = rw e
