-- One turn of the pass over the records: each way through the code, over plain variables. Assumes nothing.
use mathlib.Core.Path.{◌≡◌, refl, sym, ap, ◌∙◌}
use mathlib.Core.List.{List}
use Rattle.std.specs.Prelude.{Option, Result, Ok, Err, IsErrAnd}
use Prim.Native.Nat.{ℕ, ◌+◌, ◌-◌, ◌≤◌}
use native.Mathlib.Omega.{arith}
use lib.ListN.{length, take, drop, length-take, length-drop}
use Rattle.octets.specs.Parts.{le_at}
use Rattle.book.specs.declared.State.{State}
use Rattle.book.specs.declared.phase.Phase.{Phase}
use Rattle.book.specs.declared.phase.Phase.TheVariants.{AtStart, AtWeights, AtMoves, AtItems}
use Rattle.book.specs.declared.fault.Fault.{Fault}
use Rattle.book.specs.declared.fault.Fault.TheVariants.{CutOff}
use Rattle.book.specs.Parse.{Step, fault_at, Row, cut, step, on_step, at_end, scan}
use Rattle.book.specs.Parse.Row.{End, Torn}
use Rattle.book.proofs.CutAt.{cut_whole}
use Rattle.reader.specs.Judged.{Limits, rec}
use Rattle.reader.specs.Turns.{Standing, Onward, Turned}
use Rattle.reader.specs.declared.reached.Reached.{Reached}

-- what the exit of a `?` hands on
pub handed_on : (s : List ℕ) (at : ℕ) (st : State) {f : Fault} (r : Result (Option Reached) Fault) → IsErrAnd r (λ e. e ≡ f)
    → scan (cut (drop at s)) at st ≡ Err (fault_at f at) → Turned s at st r
handed_on s at st (Ok x) h e = absurd h
handed_on s at st (Err x) h e = e ∙ ap (λ (y : Fault). Err (fault_at y at)) (sym h)

pub standing : (s : List ℕ) (at len kind : ℕ) → 4 ≤ length s - at → len ≡ le_at 2 s at → kind ≡ le_at 2 s (at + 2) → len ≤ length s - (at + 4)
    → Standing s at len kind
standing s at len kind h a b l = record { row = rw (a, b) (cut_whole s at h (rw a at l)); within = omega arith; length_is = a }

module _ (s : List ℕ) (at : ℕ) (st : State) where
  pub over_empty : cut (drop at s) ≡ End → st.phase ≡ AtStart → scan (cut (drop at s)) at st ≡ Err (fault_at CutOff at)
  unfolding scan
  over_empty e h = rw (e, h)

  pub over_end : cut (drop at s) ≡ End → (st.phase ≡ AtStart → ⊥) → scan (cut (drop at s)) at st ≡ Ok st
  unfolding scan
  over_end e h = rw e (some st.phase h)
    where
      some : (p : Phase) → (p ≡ AtStart → ⊥) → at_end p at st ≡ Ok st
      some AtStart f = absurd (f refl)
      some AtWeights f = refl
      some AtMoves f = refl
      some AtItems f = refl

  pub over_short : cut (drop at s) ≡ Torn (drop at s) → scan (cut (drop at s)) at st ≡ Err (fault_at CutOff at)
  unfolding scan
  over_short e = rw e

  module _ (len kind : ℕ) (h : Standing s at len kind) (x : Step)
      (judged : x ≡ step st (rec kind (take (at + 4 + len - (at + 4)) (drop (at + 4) s)))) where
    body_is : take (at + 4 + len - (at + 4)) (drop (at + 4) s) ≡ take len (drop (at + 4) s)
    body_is = let e : at + 4 + len - (at + 4) ≡ len = omega arith in rw e

    next : scan (cut (drop at s)) at st ≡ on_step x (λ st'. scan (cut (drop (at + 4 + len) s)) (at + 4 + len) st') at
    unfolding scan
    next =
        let body = take len (drop (at + 4) s) in
        let row = cut (drop (at + 4 + len) s) in
        let e : at + (4 + length body) ≡ at + 4 + len = omega (arith, length-take len (drop (at + 4) s), length-drop (at + 4) s, h.within) in
        ap (λ (rows : Row). scan rows at st) h.row
        ∙ ap (λ (k : ℕ). on_step (step st (rec kind body)) (λ st'. scan row k st') at) e
        ∙ ap (λ (y : Step). on_step y (λ st'. scan row (at + 4 + len) st') at) (sym (judged ∙ ap (λ (b : List ℕ). step st (rec kind b)) body_is))

    pub goes : (after : State) → x ≡ Ok after → Limits after → Onward s at st after (at + 4 + len)
    goes after e l = record { same = rw e at next; limits = l; past = omega arith; within = h.within; place_is = ap (λ (k : ℕ). at + 4 + k) h.length_is }

    pub stops : (f : Fault) → x ≡ Err f → scan (cut (drop at s)) at st ≡ Err (fault_at f at)
    stops f e = rw e at next
