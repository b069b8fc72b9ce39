-- The judgement of a book's items: the loop over them, the units made, and the place of a record. Assumes nothing.
use mathlib.Core.Path.{◌≡◌, refl, sym, ap, ◌∙◌}
use mathlib.Core.Bool.{Bool, true, false, not}
use mathlib.Core.List.{List, [], ◌∷◌, ◌++◌, map}
use Prim.Native.Nat.{ℕ, suc, ◌+◌, ◌-◌, ◌≤◌, ◌<◌}
use native.Mathlib.Numerals.{add-one}
use native.Mathlib.Omega.{arith}
use lib.ListN.{length, take, drop, length-append, length-drop, take-append-drop, drop_of_length-le}
use lib.Seq.{drop-cons}
use Rattle.std.specs.Prelude.{Result, Ok, Err, IsErrAnd}
use Rattle.base.specs.Tests.{pick, both}
use Rattle.base.specs.Bounded.{seek}
use Rattle.base.specs.Compare.{less}
use Rattle.base.proofs.Picks.{less_yes, less_no}
use Rattle.reversal.specs.Device.{Device}
use Rattle.reversal.specs.Reversal.{Item}
use Rattle.reversal.specs.Chains.{absent, item}
use Rattle.reversal.specs.Computed.Sets.{reverses, effective, accepts}
use Rattle.reversal.specs.Computed.Units.{item_made, items_made}
use Rattle.reversal.proofs.Units.{items-most, sum_bound}
use Rattle.book.specs.Book.{Book, device_of, AllowedBook, bytes_of, item_rec, frame, framed, items_of}
use Rattle.book.proofs.Scanning.{book-length}
use Rattle.items.specs.Items.{Begins, ItemStands}
use Rattle.items.proofs.Laws.{in_book}
use Rattle.items.proofs.Walk.{one_more, all_passed}
use Rattle.checker.specs.declared.Reason.{Reason}
use Rattle.checker.specs.declared.Reason.TheVariants.{NoReversePlan, NotEffective}
use Rattle.checker.specs.declared.Counts.{Counts}
use Rattle.checker.specs.declared.Rejected.{Rejected}
use Rattle.book.specs.Faults as faults
use Rattle.checker.specs.Reasons.{code_of, fault_of}
use Rattle.reader.specs.Reads.{refusal, done}
use Rattle.checker.specs.Checks.{place_of, with_units}
use Rattle.checker.specs.Contract.{wrong_item, reason_for, reason_in, judgement_of, units_of, wrong_for, on_judgement, judged_by, checking_by}

-- ---- the place of a record: what stands before it is the book with the items before it
sizes : (xs ys : List Item) → length (framed (map item_rec (xs ++ ys))) ≡ length (framed (map item_rec xs)) + length (framed (map item_rec ys))
sizes [] ys = omega arith
sizes (x ∷ xs) ys =
    omega (arith, sizes xs ys, length-append (frame (item_rec x)) (framed (map item_rec (xs ++ ys))), length-append (frame (item_rec x)) (framed (map item_rec xs)))

place_is : {s : List ℕ} {b : Book} {i at : ℕ} → ItemStands s b i at → at ≡ place_of b i
place_is {s} {b} {i} {at} h =
    let xs = items_of b in
    let before : Book = record { n = b.n; m = b.m; weights = b.weights; moves = b.moves; items = take i xs } in
    let whole = ap (λ (ys : List Item). length (framed (map item_rec ys))) (sym (take-append-drop i xs)) in
    omega (
      arith,
      in_book h,
      book-length b,
      ap length h.bytes,
      book-length before,
      whole,
      sizes (take i xs) (drop i xs),
      length-drop at s,
      ap length h.begins,
    )

-- ---- the code of a wrong item's fault
pub fault-code : (why : Reason) → faults.code_of (fault_of why) ≡ code_of why
fault-code NoReversePlan = refl
fault-code NotEffective = refl

-- ---- the answer for a book, by its first wrong item
module _ (b : Book) where
  pub all-accepted : length (items_of b) ≤ wrong_item b → judgement_of b ≡ Ok (units_of b)
  unfolding judgement_of
  all-accepted l = sym (less_no (Ok (units_of b)) _ (Ok (units_of b)) (wrong_item b) (length (items_of b)) l refl)

  -- the judgement with a wrong item
  abbrev pub turned_down : ℕ → Reason → ℕ → Result ℕ Rejected
  turned_down place why units = Err (wrong_for place why units)

  pub one-wrong : wrong_item b < length (items_of b) → judgement_of b ≡ turned_down (place_of b (wrong_item b)) (reason_in b) (units_of b)
  unfolding judgement_of
  one-wrong l =
      sym (less_yes (turned_down (place_of b (wrong_item b)) (reason_in b) (units_of b)) _ (Ok (units_of b)) (wrong_item b) (length (items_of b)) l refl)

  -- what is answered with the judgement
  pub judged_ok : {units : ℕ} → Ok units ≡ judgement_of b → with_units (done b) units ≡ with_units (judged_by refusal done b) (units_of b)
  unfolding judgement_of pick
  judged_ok {units} e = go (less (wrong_item b) (length (items_of b))) e
    where
      answer : Bool → Result ℕ Rejected
      answer t = pick t (turned_down (place_of b (wrong_item b)) (reason_in b) (units_of b)) (Ok (units_of b))

      go : (t : Bool) → Ok units ≡ answer t → with_units (done b) units ≡ with_units (on_judgement (answer t) refusal (done b)) (units_of b)
      go true q = cc
      go false q = let u : units ≡ units_of b = cc in ap (with_units (done b)) u

  pub judged_err : {r : Rejected} → Err r ≡ judgement_of b → checking_by (Err r) ≡ with_units (judged_by refusal done b) (units_of b)
  unfolding judgement_of pick
  judged_err {r} e = go (less (wrong_item b) (length (items_of b))) e
    where
      answer : Bool → Result ℕ Rejected
      answer t = pick t (turned_down (place_of b (wrong_item b)) (reason_in b) (units_of b)) (Ok (units_of b))

      go : (t : Bool) → Err r ≡ answer t → checking_by (Err r) ≡ with_units (on_judgement (answer t) refusal (done b)) (units_of b)
      go true q = let u : r ≡ wrong_for (place_of b (wrong_item b)) (reason_in b) (units_of b) = cc in ap (λ (x : Rejected). checking_by (Err x)) u
      go false q = cc

-- a `?` passes on the error
pub error_is : {A E : Type 0} {r : E} (x : Result A E) → IsErrAnd x (λ e. e ≡ r) → x ≡ Err r
error_is (Ok b) h = absurd h
error_is (Err e) h = ap Err h

-- ---- one item, by both rules
module _ (d : Device) (x : Item) where
  -- it is not accepted, for this reason
  abbrev pub TurnedDown : Reason → Type 0
  TurnedDown why = (accepts d x ≡ false) × (reason_for d x ≡ why)

  pub passes_both : reverses d x ≡ true → effective d x ≡ true → accepts d x ≡ true
  unfolding accepts both
  passes_both r e = rw (r, e)

  pub not_reversed : reverses d x ≡ false → TurnedDown NoReversePlan
  unfolding accepts both reason_for pick
  not_reversed r = (rw r, rw r)

  pub not_used : reverses d x ≡ true → effective d x ≡ false → TurnedDown NotEffective
  unfolding accepts both reason_for pick
  not_used r e = (rw (r, e), rw r)

-- ---- the loop over items
abbrev pub wrong_at : Device → Book → ℕ → Bool
wrong_at d b i = not (accepts d (item (items_of b) i))

-- the walk stands at an item's record, or past the last: what is left to judge gives the whole, and so do the units
pub record Walking (d : Device) (s : List ℕ) (b : Book) (at units : ℕ) : Type 0 where
  pub number : ℕ
  pub known : number ≤ length (items_of b)
  pub here : Begins s b number at
  pub left : seek (wrong_at d b) number (length (items_of b) - number) ≡ seek (wrong_at d b) 0 (length (items_of b))
  pub count : units + items_made d (drop number (items_of b)) ≡ items_made d (items_of b)

module _ (d : Device) (s : List ℕ) (b : Book) where
  pub at_first : (at : ℕ) → Begins s b 0 at → Walking d s b at 0
  at_first at q =
      let e : length (items_of b) - 0 ≡ length (items_of b) = omega arith in
      record { number = 0; known = omega arith; here = q; left = rw e; count = omega arith }

  module _ (a : AllowedBook b) (e : bytes_of b ≡ s) (at units : ℕ) (w : Walking d s b at units) where
    pub stands : at < length s → ItemStands s b w.number at
    stands h = one_more a e w.known w.here h

    abbrev x : Item
    x = item (items_of b) w.number

    module _ (h : at < length s) where
      -- the units of this item, and of those after it
      this_item : units + (item_made d x + pick (accepts d x) (items_made d (drop (w.number + 1) (items_of b))) 0) ≡ items_made d (items_of b)
      unfolding items_made
      this_item =
          let split : drop w.number (items_of b) ≡ x ∷ drop (w.number + 1) (items_of b) = rw add-one (drop-cons (items_of b) w.number absent (stands h).known) in
          rw split at w.count

      -- they are few
      pub few_units : d.n ≤ 64 → units + item_made d x ≤ 65536
      few_units few = omega (arith, this_item, items-most d (items_of b), sum_bound d.n (device_of b) (items_of b) few a.each_item, a.few)

      pub at_next : (next : ℕ) → Begins s b (w.number + 1) next → accepts d x ≡ true → (units' : ℕ) → units' ≡ units + item_made d x → Walking d s b next units'
      unfolding seek pick
      at_next next q f units' u =
          let l : length (items_of b) - w.number ≡ suc (length (items_of b) - (w.number + 1)) = omega (arith, (stands h).known) in
          record {
            number = w.number + 1;
            known = omega (arith, (stands h).known);
            here = q;
            left = rw add-one (rw (l, ap not f, add-one) at w.left);
            count = let g = rw f at this_item in omega arith;
          }

    module _ (device : d ≡ device_of b) where
      pub none-wrong : length s ≤ at → Ok units ≡ judgement_of b
      unfolding wrong_item seek items_made
      none-wrong h =
          let all = all_passed a e w.known w.here h in
          let z : length (items_of b) - w.number ≡ 0 = omega arith in
          let i : w.number ≡ wrong_item b = rw (z, device) at w.left in
          let past : length (items_of b) ≤ w.number = omega arith in
          let none : drop w.number (items_of b) ≡ [] = drop_of_length-le (items_of b) past in
          let c : units + 0 ≡ units_of b = rw (none, device) at w.count in
          let u : units ≡ units_of b = omega arith in ap Ok u ∙ sym (all-accepted b (omega arith))

      pub found : (h : at < length s) (why : Reason) → TurnedDown d x why → (units' : ℕ) → units' ≡ units + item_made d x
          → Err (wrong_for at why units') ≡ judgement_of b
      unfolding wrong_item seek pick
      found h why (f, r) units' u =
          let l : length (items_of b) - w.number ≡ suc (length (items_of b) - (w.number + 1)) = omega (arith, (stands h).known) in
          let i : w.number ≡ wrong_item b = rw (l, ap not f, device) at w.left in
          let here : reason_in b ≡ why = rw (← i, ← device) r in
          let g : units + (item_made d x + 0) ≡ items_made d (items_of b) = rw f at (this_item h) in
          let c : items_made d (items_of b) ≡ units_of b = ap (λ (y : Device). items_made y (items_of b)) device in
          let q : units' ≡ units_of b = omega arith in
          let p : at ≡ place_of b (wrong_item b) = place_is (stands h) ∙ ap (place_of b) i in
          rw (q, p, ← here) (sym (one-wrong b (omega (arith, (stands h).known))))
