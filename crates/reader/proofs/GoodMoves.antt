-- Moves without a fault, passed one after the other: what the loop finds at a place, and that judging goes on from where it ends. Assumes nothing.
use mathlib.Core.Path.{◌≡◌, refl, sym, ap, ap₂, ◌∙◌, subst}
use mathlib.Core.Bool.{true, false, not}
use mathlib.Core.List.{List, [], ◌∷◌}
use Rattle.std.specs.Prelude.{Ok}
use Prim.Native.Nat.{ℕ, zero, suc, ◌+◌, ◌-◌, ◌*◌, ◌%◌, ◌^◌, ◌≤◌, ◌<◌}
use native.Mathlib.Nat.{add-zero}
use native.Mathlib.Omega.{arith}
use borrow.Author.Tests.{lt-ltb}
use lib.ListN.{length, get_or, take, drop, length-drop}
use lib.Seq.{get_or-take, get_or-drop, length-take-le, take-take, drop-drop}
use Rattle.base.specs.Masks.{clear_from}
use Rattle.base.specs.Tests.{pick}
use Rattle.base.specs.Compare.{same}
use Rattle.base.proofs.Picks.{tests}
use Rattle.octets.specs.Parts.{le, le_at}
use Rattle.octets.proofs.LeAt.{le-suc, le2, halves8}
use Rattle.std.specs.List.{between}
use Rattle.std.proofs.lemmas.List.Edits.{get_or-between}
use Rattle.book.specs.declared.kind.Kind.TheVariants.{MoveRecord}
use Rattle.book.specs.declared.State.{State}
use Rattle.book.specs.Limits.{move_fine, move_with}
use Rattle.book.specs.Parse.{allows, kind_of, cut, step, scan}
use Rattle.reader.specs.Judged.{Limits, rec}
use Rattle.reader.specs.Turns.{Onward}
use Rattle.reader.specs.Passing.{GoodMove, moved, Passing}
use Rattle.reader.specs.Passing.Passing.{none, one}
use Rattle.reader.proofs.Laws.{move_goes, step_of}
use Rattle.reader.proofs.Turns.{standing, goes}

-- ---- a part of a row
-- a number in bytes that two rows have alike
le-same : (n : ℕ) (r s : List ℕ) (i p : ℕ) → ((j : ℕ) → j < n → get_or r (i + j) 0 ≡ get_or s (p + j) 0) → le_at n r i ≡ le_at n s p
le-same zero r s i p h = refl
le-same (suc n) r s i p h =
    let first : get_or r i 0 ≡ get_or s p 0 = rw (add-zero i, add-zero p) at (h 0 (omega arith)) in
    let rest =
    le-same n r s (suc i) (suc p)
    (λ j l.
    let a : suc i + j ≡ i + suc j = omega arith in
    let b : suc p + j ≡ p + suc j = omega arith in
    rw (a, b) (h (suc j) (omega arith))) in
    le-suc n r i ∙ ap₂ (λ (x y : ℕ). x + 256 * y) first rest ∙ sym (le-suc n s p)

module _ (s : List ℕ) (at end : ℕ) where
  pub byte-between : (i : ℕ) → at + i < end → get_or (between at end s) i 0 ≡ get_or s (at + i) 0
  byte-between i l = get_or-between s at end i 0 l

  pub le-between : (i : ℕ) → at + i + 8 ≤ end → le_at 8 (between at end s) i ≡ le_at 8 s (at + i)
  le-between i l =
      le-same 8 (between at end s) s i (at + i)
      (λ j k. let e : at + i + j ≡ at + (i + j) = omega arith in rw e (byte-between (i + j) (omega arith)))

-- ---- what the loop finds at a place
module _ (s : List ℕ) (at : ℕ) (byte : (i : ℕ) → get_or s i 0 < 256) where
  -- the first four bytes are two numbers of two
  head_is : le_at 8 s at % 4294967296 ≡ 131082 → (le_at 2 s at ≡ 10) × (le_at 2 s (at + 2) ≡ 2)
  head_is e =
      let p : at + 2 + 1 ≡ at + 3 = omega arith in
      let q : le_at 2 s (at + 2) ≡ get_or s (at + 2) 0 + 256 * get_or s (at + 3) 0 = le2 s (at + 2) ∙ rw p in (
        omega (arith, halves8 s at, le2 s at, byte at, byte (at + 1), byte (at + 2), byte (at + 3)),
        omega (arith, halves8 s at, q, byte at, byte (at + 1), byte (at + 2), byte (at + 3)),
      )

  pub good-move : (n m top low state command mask head : ℕ) → state ≡ get_or s (at + 4) 0 → command ≡ get_or s (at + 5) 0 → mask ≡ le_at 8 s (at + 6)
      → head ≡ le_at 8 s at → head % 4294967296 ≡ 131082 → state < n → command < m → (mask ≡ 0 → ⊥) → mask ≤ top → top + 1 ≡ 2 ^ n
      → low ≤ state * m + command → GoodMove s at n m low (state * m + command + 1)
  unfolding move_fine clear_from
  good-move n m top low state command mask head es ec em eh h p q z l t r =
      let k = head_is (rw eh at h) in
      let c : not (clear_from n mask) ≡ false = ap not (lt-ltb mask (2 ^ n) (omega arith)) in
      let f : true ≡ move_fine n m (move_with state command mask) = search tests in
      record { length_is = k.0; kind_is = k.1; fine = sym (rw (es, ec, em) at f); rising = rw (es, ec) at r; next_is = rw (es, ec) }

-- ---- where judging goes on
module _ (s : List ℕ) (at next : ℕ) (st : State) (l : at + 14 ≤ length s) (g : GoodMove s at st.n st.m st.low next) (p : allows st.phase MoveRecord ≡ true) where
  judged : Ok (moved st next) ≡ step st (rec 2 (take (at + 4 + 10 - (at + 4)) (drop (at + 4) s)))
  unfolding kind_of same pick
  judged =
      let ten : at + 4 + 10 - (at + 4) ≡ 10 = omega arith in
      let six : at + 6 ≡ at + 4 + 2 = omega arith in
      let body = take 10 (drop (at + 4) s) in
      let es : get_or s (at + 4) 0 ≡ get_or body 0 0 = field 0 (at + 4) (omega arith) (omega arith) in
      let ec : get_or s (at + 5) 0 ≡ get_or body 1 0 = field 1 (at + 5) (omega arith) (omega arith) in
      let em : le_at 8 s (at + 6) ≡ le_at 8 body 2 = ap (λ (k : ℕ). le_at 8 s k) six ∙ ap (λ (t : List ℕ). le (take 8 t)) (sym (drop-drop 2 (at + 4) s)) ∙ past (drop (at + 4) s) in
      rw (ten, g.next_is) (step_of st 2 body MoveRecord MoveRecord _ refl refl
      (move_goes st body _ _ _ es ec em p
      (length-take-le 10 (drop (at + 4) s) (omega (arith, length-drop (at + 4) s))) g.fine g.rising))
    where
      field : (i k : ℕ) → at + 4 + i ≡ k → i < 10 → get_or s k 0 ≡ get_or (take 10 (drop (at + 4) s)) i 0
      field i k e h = sym (get_or-take 10 (drop (at + 4) s) i 0 h ∙ get_or-drop (at + 4) s i 0 ∙ ap (λ (j : ℕ). get_or s j 0) e)

      past : (t : List ℕ) → le_at 8 t 2 ≡ le_at 8 (take 10 t) 2
      past [] = refl
      past (a ∷ []) = refl
      past (a ∷ b ∷ t) = ap le (sym (take-take 8 8 t (omega arith)))

  pub move_onward : Limits st → Onward s at st (moved st next) (at + 14)
  move_onward k =
      let e : at + 4 + 10 ≡ at + 14 = omega arith in
      subst (λ (q : ℕ). Onward s at st (moved st next) q) e
      (goes s at st 10 2 (standing s at 10 2 (omega arith) (sym g.length_is) (sym g.kind_is) (omega arith)) (Ok (moved st next)) judged (moved st next)
      refl (record { n_high = k.n_high; m_high = k.m_high; few = k.few }))

pub passing_onward : {s : List ℕ} {from : ℕ} {st : State} {at : ℕ} {after : State} → Limits st → Passing s from st at after
    → (scan (cut (drop from s)) from st ≡ scan (cut (drop at s)) at after) × Limits after
passing_onward k none = (refl, k)
passing_onward {s} k (one p l g h) =
    let (e, f) = passing_onward k p in
    let o = move_onward s _ _ _ l g h f in
    (e ∙ o.same, o.limits)

pub passing_up : {s : List ℕ} {from : ℕ} {st : State} {at : ℕ} {after : State} → Passing s from st at after → from ≤ at
passing_up none = omega arith
passing_up (one p l g h) = omega (arith, passing_up p)
