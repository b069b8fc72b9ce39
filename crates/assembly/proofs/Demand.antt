-- Demand 3, from what 01 says of assembling. Assumes nothing.
use mathlib.Core.Path.{◌≡◌, sym, ap, ◌∙◌, subst}
use mathlib.Core.Logic.{◌⊎◌, inl, inr}
use mathlib.Core.List.{List}
use Prim.Native.Nat.{ℕ, ◌*◌}
use native.Mathlib.Omega.{arith}
use lib.ListN.{length, take}
use Rattle.base.specs.Lists.{Bytes}
use Rattle.reversal.specs.Runs.{Run, last}
use Rattle.reversal.specs.Chains.{Best, Chain, plan_of, legs_of, cost, Undoes}
use Rattle.reversal.specs.Answers.{Answer, assembled, Answers, no-history, no_chain, done, Numbers}
use Rattle.reversal.proofs.EndToEnd.{chain-undoes}
use Rattle.book.specs.Book.{Book, device_of, items_for}
use Rattle.checker.specs.Checks.{AllAccepted}
use Rattle.checker.proofs.Unique.{accepted-book, check_codes, not-eleven}
use Rattle.assembly.specs.Asked.{Asked}
use Rattle.assembly.specs.declared.Assembly.{Assembly}
use Rattle.assembly.specs.Lent.{LegForm, AllLent}
use Rattle.assembly.specs.Assembles.{Left, Assembles, short, unaccepted, faulty, answered}
use Rattle.assembly.specs.Demand.{Given, Ready, Planned, Demand}
use Rattle.assembly.proofs.Exactly.{Even, length-legs}
use Rattle.assembly.proofs.Unique.{given-answer}

neither : {x y : ℕ} → ((x ≡ 0) ⊎ (x ≡ 11)) → x ≡ y → (y ≡ 0 → ⊥) → (y ≡ 11 → ⊥) → ⊥
neither (inl z) e n m = n (sym e ∙ z)
neither (inr z) e n m = m (sym e ∙ z)

module _ {E : Type 0} {form : LegForm E} (even : Even form) {ask : Asked} {l : AllLent E} {r : Assembly} {l' : AllLent E} (h : Bytes ask.book)
    (x : Assembles form ask l r l') where
  code_of_lem : {y : Assembly} → r ≡ y → r.code ≡ y.code
  code_of_lem e = ap (λ (y : Assembly). y.code) e

  -- the code of an answer
  code_at : {a y : Answer} → Left form a l.room r l'.room → a ≡ y → r.code ≡ y.code
  code_at w e = code_of_lem w.result_is ∙ ap (λ (y : Answer). y.code) e

  -- ---- where all before is in order
  module _ {b : Book} {u : Run} (ready : Ready form ask l b u) where
    none_then_11 : ((ys : List ℕ) → Chain (device_of b) u (items_for b) (last u) ys → ⊥) → r.code ≡ 11
    none_then_11 n = let (a, right, left) = given-answer h x ready.long ready.given in go right left
      where
        go : {a : Answer} → Answers (device_of b) b.weights (items_for b) u a → Left form a l.room r l'.room → r.code ≡ 11
        go (no-history q e) w = absurd (q ready.path ready.history)
        go (no_chain p v q ns m e) w = code_at w e
        go (done p v xs best ns m e) w = absurd (n xs best.chain)

    some_then_0 : (ys : List ℕ) → Chain (device_of b) u (items_for b) (last u) ys → r.code ≡ 0
    some_then_0 ys k = let (a, right, left) = given-answer h x ready.long ready.given in go right left
      where
        go : {a : Answer} → Answers (device_of b) b.weights (items_for b) u a → Left form a l.room r l'.room → r.code ≡ 0
        go (no-history q e) w = absurd (q ready.path ready.history)
        go (no_chain p v q ns m e) w = absurd (q ys k)
        go (done p v xs best ns m e) w = code_at w e

  -- ---- where the code is 0
  module _ (b : Book) (u : Run) (accepted : AllAccepted b) {a : Answer} (w : Left form a l.room r l'.room) {xs ns : List ℕ}
      (best : Best (device_of b) b.weights u (items_for b) xs) (q : a ≡ assembled b.weights (items_for b) (last u) xs ns) where
    counted : r.commands ≡ length (plan_of (items_for b) xs)
    counted = ap (λ (y : Assembly). y.commands) w.result_is ∙ ap (λ (y : Answer). y.commands) q

    legs_counted : r.legs ≡ length xs
    legs_counted = ap (λ (y : Assembly). y.legs) w.result_is ∙ ap (λ (y : Answer). y.leg-count) q

    sum_is : r.sum ≡ cost b.weights (items_for b) xs
    sum_is = ap (λ (y : Assembly). y.sum) w.result_is ∙ ap (λ (y : Answer). y.sum) q

    plan_written : take r.commands l'.room.plan ≡ plan_of (items_for b) xs
    plan_written =
        ap (λ (n : ℕ). take n l'.room.plan) (counted ∙ sym (ap (λ (y : Answer). length y.plan-bytes) q)) ∙ w.plan_written.front
        ∙ ap (λ (y : Answer). y.plan-bytes) q

    legs_written : take (form.width * r.legs) l'.room.legs ≡ form.held (legs_of (items_for b) (last u) xs)
    legs_written =
        ap (λ (n : ℕ). take n l'.room.legs)
        (ap (λ (n : ℕ). form.width * n) (legs_counted ∙ sym (length-legs (items_for b) xs (last u))) ∙ sym (even (legs_of (items_for b) (last u) xs))
        ∙ sym (ap (λ (y : Answer). length (form.held y.plan-legs)) q))
        ∙ w.legs_written.front ∙ ap (λ (y : Answer). form.held y.plan-legs) q

    planned : Planned form b u r l'.room
    planned =
        record {
          items = xs;
          chain = best.chain;
          plan_written = plan_written;
          legs_written = legs_written;
          commands_counted = counted;
          legs_counted = legs_counted;
          undoes = subst (Undoes (device_of b) u) (sym plan_written) (chain-undoes (device_of b) u (items_for b) accepted xs best.chain);
          sum_is = sum_is;
          least_sum = λ ys k. omega (arith, sum_is, best.least ys k);
          lowest = λ ys k same. best.lowest ys k (same ∙ sum_is);
        }

  -- ---- the cases of 01's table
  abbrev Is : Type 0
  Is = Assembles form ask l r l'

  given-plan : r.code ≡ 0 → Is → (b : Book) × ((u : Run) × Given ask b u × Planned form b u r l'.room)
  given-plan z (short a e k) = absurd (omega (arith, code_of_lem e))
  given-plan z (unaccepted long ck n e w) = absurd (n (sym (code_of_lem e) ∙ z))
  given-plan z (faulty long b k n e w) = absurd (omega (arith, code_of_lem e))
  given-plan z (answered long b k u al ub an (no-history n q) w) = absurd (omega (arith, code_at w q))
  given-plan z (answered long b k u al ub an (no_chain p v n ns m q) w) = absurd (omega (arith, code_at w q))
  given-plan z (answered long b k u al ub an (done p v xs best ns m q) w) =
      (b, (u, record { accepted = accepted-book k; allowed = al; bytes_of_run = ub }, planned b u k.accepted w best q))

  none-given : r.code ≡ 11 → Is
      → (b : Book) × ((u : Run) × Ready form ask l b u × ((ys : List ℕ) → Chain (device_of b) u (items_for b) (last u) ys → ⊥))
  none-given z (short a e k) = absurd (omega (arith, code_of_lem e))
  none-given z (unaccepted long ck n e w) = absurd (not-eleven (check_codes ck) (sym (code_of_lem e) ∙ z))
  none-given z (faulty long b k n e w) = absurd (omega (arith, code_of_lem e))
  none-given z (answered long b k u al ub an (no-history n q) w) = absurd (omega (arith, code_at w q))
  none-given z (answered long b k u al ub an (no_chain p v n ns m q) w) =
      let given : Given ask b u = record { accepted = accepted-book k; allowed = al; bytes_of_run = ub } in
      (b, (u, record { long = long; given = given; path = p; history = v }, n))
  none-given z (answered long b k u al ub an (done p v xs best ns m q) w) = absurd (omega (arith, code_at w q))

  numbers_at : {a : Answer} (b : Book) (u : Run) {ns : List ℕ} → Left form a l.room r l'.room → a.fewest ≡ ns → Numbers (device_of b) b.weights u (items_for b) ns
      → Numbers (device_of b) b.weights u (items_for b) r.fewest
  numbers_at b u w q m = subst (Numbers (device_of b) b.weights u (items_for b)) (sym (ap (λ (y : Assembly). y.fewest) w.result_is ∙ q)) m

  numbers_of : ((r.code ≡ 0) ⊎ (r.code ≡ 11)) → Is → (b : Book) × ((u : Run) × Given ask b u × Numbers (device_of b) b.weights u (items_for b) r.fewest)
  numbers_of z (short a e k) = absurd (neither z (code_of_lem e) (λ q. omega arith) (λ q. omega arith))
  numbers_of z (unaccepted long ck n e w) = absurd (neither z (code_of_lem e) n (not-eleven (check_codes ck)))
  numbers_of z (faulty long b k n e w) = absurd (neither z (code_of_lem e) (λ q. omega arith) (λ q. omega arith))
  numbers_of z (answered long b k u al ub an (no-history n q) w) = absurd (neither z (code_at w q) (λ v. omega arith) (λ v. omega arith))
  numbers_of z (answered long b k u al ub an (no_chain p v n ns m q) w) =
      (b, (u, record { accepted = accepted-book k; allowed = al; bytes_of_run = ub }, numbers_at b u w (ap (λ (y : Answer). y.fewest) q) m))
  numbers_of z (answered long b k u al ub an (done p v xs best ns m q) w) =
      (b, (u, record { accepted = accepted-book k; allowed = al; bytes_of_run = ub }, numbers_at b u w (ap (λ (y : Answer). y.fewest) q) m))

  pub demand : Demand form ask l r l'
  demand =
      record {
        plan_given = λ z. given-plan z x;
        no_chain = ((λ z. none-given z x), λ (b, (u, ready, n)). none_then_11 ready n);
        gives_plan = λ b u ready ys k. some_then_0 ready ys k;
        numbers = λ z. numbers_of z x;
      }
