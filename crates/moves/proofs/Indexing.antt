-- The pass over the moves: the rows give the outcomes of the moves passed, and what is left of the moves gives the others. Assumes nothing.
use mathlib.Core.Path.{◌≡◌, refl, sym, ap, ◌∙◌}
use mathlib.Core.Bool.{Bool, true, false}
use mathlib.Core.List.{List, [], ◌∷◌, ◌++◌, map}
use mathlib.Core.Logic.{◌⊎◌, inl, inr, ⊎_elim}
use Prim.Native.Nat.{ℕ, suc, ◌+◌, ◌*◌, ◌/◌, ◌%◌, ◌^◌, ◌≤◌, ◌<◌}
use native.Mathlib.Decide.{dec_lt}
use native.Mathlib.Nat.{mul-le-mul, suc-mul, le_refl}
use native.Mathlib.Omega.{arith}
use lib.ListN.{length, get_or, set, drop}
use lib.Seq.{get_or-set_same, get_or-set_other}
use Rattle.base.specs.Sets.{In}
use Rattle.base.specs.Tests.{pick, both}
use Rattle.base.specs.Compare.{same}
use Rattle.base.proofs.Compare.{same_on, same_off, on_same}
use Rattle.base.proofs.Masks.{in_zero, one_in, in_or_not}
use Rattle.base.proofs.Added.{none-zero}
use Rattle.octets.specs.Parts.{le_at, whole_at}
use Rattle.octets.proofs.LeAt.{whole_in}
use Rattle.book.specs.Book.{Move, Book, outcome_of, AllowedBook, index, framed, move_rec, item_rec, bytes_of, items_of}
use Rattle.book.specs.Buffers.{zeroed}
use Rattle.book.proofs.Table.{zeroed_below}
use Rattle.book.proofs.Fields.{mask_fits}
use Rattle.book.proofs.Rising.{AllowedMoves}
use Rattle.book.proofs.Scanning.{kept-moves}
use Rattle.book.proofs.Largest.{length-book}
use Rattle.std.specs.Prelude.{Some}
use Rattle.items.specs.Items.{MovesBegin, MoveComes}
use Rattle.items.proofs.Walk.{past-move, state_at, command_at_lem, mask_at_lem, move-inside, no_move, none_left}
use Rattle.moves.specs.Moves.{mask_at, moved_to, with_move, move_added}
use Rattle.moves.proofs.Rows.{moved_in, moved_none, added_in, kept_in, in_added, place_kept, place_added, place_next, row-stored}

-- ---- equal or not
either : {P : Type 0} (x y : ℕ) → (x ≡ y → P) → ((x ≡ y → ⊥) → P) → P
either {P} x y f g = go (same x y) refl
  where
    go : (t : Bool) → same x y ≡ t → P
    go true e = f (same_on x y e)
    go false e = g (same_off x y e)

-- ---- the outcomes of the first move, and of the others
module _ (x : Move) (xs : List Move) where
  first-outcome : outcome_of (x ∷ xs) x.state x.command ≡ x.mask
  unfolding outcome_of both pick
  first-outcome = rw (on_same x.state x.state refl, on_same x.command x.command refl)

  other-outcome : (q c : ℕ) → ((q ≡ x.state) × (c ≡ x.command) → ⊥) → outcome_of (x ∷ xs) q c ≡ outcome_of xs q c
  unfolding outcome_of both pick
  other-outcome q c f = go (same x.state q) refl (same x.command c) refl
    where
      go : (u : Bool) → same x.state q ≡ u → (v : Bool) → same x.command c ≡ v → pick (both u v) x.mask (outcome_of xs q c) ≡ outcome_of xs q c
      go true e true k = absurd (f (sym (same_on x.state q e), sym (same_on x.command c k)))
      go true e false k = refl
      go false e v k = refl

-- ---- the invariant
pub record Indexing (s : List ℕ) (b : Book) (at : ℕ) (masks : List ℕ) : Type 0 where
  pub left : List Move
  -- the moves that are left have an index of at least `low`
  pub low : ℕ
  pub allowed : AllowedMoves b.n b.m low left
  pub rest : drop at s ≡ framed (map move_rec left ++ map item_rec (items_of b))
  -- those in the rows have a lower one
  pub passed : (q c : ℕ) → q < b.n → In (get_or masks q 0 / 65536) c → q * b.m + c < low
  -- a state that may have a move among those left has none yet, or its next one stands here
  pub next : (q : ℕ) → q < b.n → low < q * b.m + b.m → (get_or masks q 0 < 65536) ⊎ (mask_at (get_or masks q 0) b.m ≡ at + 6)
  -- a command in a row gives the book's outcomes, and of the others the moves that are left do
  pub found : (q c : ℕ) → q < b.n → In (get_or masks q 0 / 65536) c → moved_to s (get_or masks q 0) c ≡ outcome_of b.moves q c
  pub missing : (q c : ℕ) → q < b.n → (In (get_or masks q 0 / 65536) c → ⊥) → outcome_of left q c ≡ outcome_of b.moves q c

pub indexing : {s : List ℕ} {b : Book} {at : ℕ} (old masks : List ℕ) → AllowedBook b → MovesBegin s b at → masks ≡ zeroed 64 old → Indexing s b at masks
indexing {s} {b} old masks a e h =
    record {
      left = b.moves;
      low = 0;
      allowed = kept-moves b a;
      rest = e;
      passed = λ q c l i. absurd (none q c l i);
      next = λ q l k. inl (omega (arith, zero_row q l));
      found = λ q c l i. absurd (none q c l i);
      missing = λ q c l f. refl;
    }
  where
    zero_row : (q : ℕ) → q < b.n → get_or masks q 0 ≡ 0
    zero_row q l = rw h (zeroed_below 64 old q (omega (arith, a.device.n_high)))

    none : (q c : ℕ) → q < b.n → In (get_or masks q 0 / 65536) c → ⊥
    none q c l i = in_zero c (rw (zero_row q l) at i)

-- ---- one move

-- the indices of a state's moves are below those of a higher state's
rows_apart : (m p q : ℕ) → p < q → p * m + m ≤ q * m
rows_apart m p q h = omega (arith, mul-le-mul {n₁ = suc p} {m₁ = m} {n₂ = q} {m₂ = m} h (le_refl m), suc-mul p m)

module _ (s : List ℕ) (b : Book) (at : ℕ) (masks : List ℕ) (a : AllowedBook b) (e : bytes_of b ≡ s) (room : 64 ≤ length masks) (g : Indexing s b at masks)
    (inside : at + 2 < length s) (masks' : List ℕ) (e' : masks' ≡ move_added s at masks) where
  module _ (x : Move) (xs : List Move) (al : AllowedMoves b.n b.m g.low (x ∷ xs))
      (r : drop at s ≡ framed (map move_rec (x ∷ xs) ++ map item_rec (items_of b)))
      (missed : (q c : ℕ) → q < b.n → (In (get_or masks q 0 / 65536) c → ⊥) → outcome_of (x ∷ xs) q c ≡ outcome_of b.moves q c) where
    abbrev m : ℕ
    m = b.m

    abbrev t : List ℕ
    t = framed (map move_rec xs ++ map item_rec (items_of b))

    abbrev row : ℕ
    row = get_or masks x.state 0

    abbrev row' : ℕ
    row' = with_move row (at + 6) x.command

    small : at + 6 < 65536
    small = omega (arith, length-book b a, ap length e)

    -- the row of the move's state is changed, and no other
    stored : masks' ≡ set masks x.state row'
    stored =
        e'
        ∙ sym
        (row-stored s at masks x.state x.command row' (set masks x.state row') (sym (state_at s at x t r)) (sym (command_at_lem s at x t r))
        (omega (arith, al.0.known_command, a.device.m_high)) (omega (arith, al.0.known_state, a.device.n_high)) refl refl)

    changed : get_or masks' x.state 0 ≡ row'
    changed = rw stored (get_or-set_same masks x.state row' 0 (omega (arith, a.device.n_high, al.0.known_state)))

    others : (q : ℕ) → (q ≡ x.state → ⊥) → get_or masks' q 0 ≡ get_or masks q 0
    others q f = rw stored (get_or-set_other masks x.state q row' 0 f)

    -- the commands in the row come before the move's
    before : (c : ℕ) → In (row / 65536) c → c < x.command
    before c h = omega (arith, g.passed x.state c al.0.known_state h, al.1)

    next_here : (row < 65536) ⊎ (mask_at row m ≡ at + 6)
    next_here = g.next x.state al.0.known_state (omega (arith, al.1, al.0.known_command))

    -- ---- the parts of the invariant, for the row that is changed and for the others
    passed_here : (c : ℕ) → In (row' / 65536) c → x.state * m + c < index m x + 1
    passed_here c i =
        ⊎_elim (λ (h : In (row / 65536) c). omega (arith, before c h)) (λ (h : In (2 ^ x.command) c). omega (arith, one_in x.command c h))
        (in_added row (at + 6) x.command small c i)

    passed_on : (q c : ℕ) → q < b.n → In (get_or masks' q 0 / 65536) c → q * m + c < index m x + 1
    passed_on q c l i =
        either q x.state (λ z. rw z (passed_here c (rw (z, changed) at i)))
        (λ f. omega (arith, g.passed q c l (rw (others q f) at i), al.1))

    -- another state whose moves may come has no command yet
    fresh : (q : ℕ) → q < b.n → (q ≡ x.state → ⊥) → index m x + 1 < q * m + m → get_or masks q 0 < 65536
    fresh q l f k = let z : get_or masks q 0 / 65536 ≡ 0 = none-zero (get_or masks q 0 / 65536) (λ c i. go c i (dec_lt q x.state)) in omega arith
      where
        go : (c : ℕ) → In (get_or masks q 0 / 65536) c → Dec (q < x.state) → ⊥
        go c i (yes h) = omega (arith, rows_apart m q x.state h)
        go c i (no h) = omega (arith, rows_apart m x.state q (omega arith), g.passed q c l i, al.1, al.0.known_command)

    next_on : (q : ℕ) → q < b.n → index m x + 1 < q * m + m → (get_or masks' q 0 < 65536) ⊎ (mask_at (get_or masks' q 0) m ≡ at + 14 + 6)
    next_on q l k =
        either q x.state (λ z. inr (rw (z, changed) further)) (λ f. inl (rw (others q f) (fresh q l f k)))
      where
        further : mask_at row' m ≡ at + 14 + 6
        further = place_next row (at + 6) x.command small before m al.0.known_command next_here ∙ omega arith

    found_new : moved_to s row' x.command ≡ outcome_of b.moves x.state x.command
    found_new =
        moved_in s row' x.command (added_in row (at + 6) x.command small)
        ∙ (ap (whole_at s) (place_added row (at + 6) x.command small before m al.0.known_command next_here)
        ∙ (whole_in s (at + 6) (omega (arith, move-inside s at x t r)) ∙ mask_at_lem s at x t r (mask_fits b.n x.mask a.device.n_high al.0.states)
        ∙ (sym (first-outcome x xs) ∙ missed x.state x.command al.0.known_state (λ h. omega (arith, before x.command h)))))

    found_here : (c : ℕ) → In (row' / 65536) c → moved_to s row' c ≡ outcome_of b.moves x.state c
    found_here c i =
        ⊎_elim
        (λ (h : In (row / 65536) c).
        moved_in s row' c i
        ∙ (ap (whole_at s) (place_kept row (at + 6) x.command small before c h) ∙ (sym (moved_in s row c h) ∙ g.found x.state c al.0.known_state h)))
        (λ (h : In (2 ^ x.command) c). rw (one_in x.command c h) found_new) (in_added row (at + 6) x.command small c i)

    found_on : (q c : ℕ) → q < b.n → In (get_or masks' q 0 / 65536) c → moved_to s (get_or masks' q 0) c ≡ outcome_of b.moves q c
    found_on q c l i =
        either q x.state (λ z. rw (z, changed) (found_here c (rw (z, changed) at i)))
        (λ f. rw (others q f) (g.found q c l (rw (others q f) at i)))

    missing_on : (q c : ℕ) → q < b.n → (In (get_or masks' q 0 / 65536) c → ⊥) → outcome_of xs q c ≡ outcome_of b.moves q c
    missing_on q c l f =
        sym (other-outcome x xs q c (λ (z, k). f (rw (z, changed, k) (added_in row (at + 6) x.command small))))
        ∙ missed q c l (λ h. f (kept h))
      where
        kept : In (get_or masks q 0 / 65536) c → In (get_or masks' q 0 / 65536) c
        kept h =
            either q x.state (λ z. rw (z, changed) (kept_in row (at + 6) x.command small c (rw z at h)))
            (λ f. rw (others q f) h)

    indexed_on : Indexing s b (at + 14) masks'
    indexed_on =
        record {
          left = xs;
          low = index m x + 1;
          allowed = al.2;
          rest = past-move s at x t r;
          passed = passed_on;
          next = next_on;
          found = found_on;
          missing = missing_on;
        }

  pub indexed-move : le_at 2 s (at + 2) ≡ 2 → Indexing s b (at + 14) masks'
  indexed-move k = go g.left g.allowed g.rest g.missing
    where
      go : (left : List Move) → AllowedMoves b.n b.m g.low left → drop at s ≡ framed (map move_rec left ++ map item_rec (items_of b))
          → ((q c : ℕ) → q < b.n → (In (get_or masks q 0 / 65536) c → ⊥) → outcome_of left q c ≡ outcome_of b.moves q c) → Indexing s b (at + 14) masks'
      go [] al r missed = absurd (no_move (items_of b) s at r k)
      go (x ∷ xs) al r missed = indexed_on x xs al r missed

-- the next move that comes
pub indexed-comes : {s u u' : List ℕ} {b : Book} {at x at' : ℕ} {masks masks' : List ℕ} → AllowedBook b → bytes_of b ≡ s → 64 ≤ length masks → u ≡ s
    → Indexing s b at masks → MoveComes u at (Some x) u' at' → masks' ≡ move_added s x masks → Indexing s b at' masks'
indexed-comes {s} {b = b} {at = at} {masks = masks} {masks' = masks'} a e room same g m added =
    let inside = rw same at m.1.1 in
    rw m.1.3 (indexed-move s b at masks a e room g (omega arith) masks' (rw m.1.0 at added) (rw same at m.1.2))

-- ---- no move is left
pub all-indexed : {s : List ℕ} {b : Book} {at : ℕ} {masks : List ℕ} → Indexing s b at masks → (at + 14 ≤ length s → le_at 2 s (at + 2) ≡ 2 → ⊥)
    → (q c : ℕ) → q < b.n → moved_to s (get_or masks q 0) c ≡ outcome_of b.moves q c
unfolding outcome_of
all-indexed {s} {b} {at} {masks} g k q c l =
    ⊎_elim (g.found q c l) (λ (z : get_or masks q 0 / 65536 / 2 ^ c % 2 ≡ 0).
    moved_none s (get_or masks q 0) c (λ h. clash h z) ∙ nothing (λ h. clash h z)) (in_or_not (get_or masks q 0 / 65536) c)
  where
    clash : {x : ℕ} → x ≡ 1 → x ≡ 0 → ⊥
    clash p z = omega arith

    nothing : (In (get_or masks q 0 / 65536) c → ⊥) → 0 ≡ outcome_of b.moves q c
    nothing f = ap (λ (left : List Move). outcome_of left q c) (sym (none_left g.left (items_of b) s at g.rest k)) ∙ g.missing q c l f
