-- Demand 3 alone fixes the answer where no refusal before it is due and some history fits: which of 0 and 11, the 33 numbers, and on 0 both counts,
-- the sum, the plan and the legs. Assumes nothing.
use mathlib.Core.Path.{◌≡◌, refl, sym, ap, ◌∙◌, subst}
use mathlib.Core.Logic.{◌⊎◌, inl, inr}
use mathlib.Core.List.{List}
use Prim.Native.Nat.{ℕ, ◌*◌}
use native.Mathlib.Omega.{arith}
use lib.ListN.{length, take}
use Rattle.reversal.specs.Runs.{Run, AllowedRun, last}
use Rattle.reversal.specs.Chains.{plan_of, legs_of, cost, Best}
use Rattle.reversal.specs.Answers.{Allowed, Answer, Answers, no-history, no_chain, done, Numbers}
use Rattle.reversal.proofs.Assembling.{answer-right, best_unique, numbers_unique}
use Rattle.book.specs.Book.{Book, device_of, items_for}
use Rattle.book.proofs.Device.{device_proper}
use Rattle.book.proofs.Unique.{one-book}
use Rattle.runs.proofs.Formed.{one-run}
use Rattle.assembly.specs.Asked.{Asked}
use Rattle.assembly.specs.declared.Assembly.{Assembly}
use Rattle.assembly.specs.Lent.{LegForm, Room, AllLent}
use Rattle.assembly.specs.Demand.{Given, Ready, Planned, Demand}

-- the bytes have one book and one run
pub same-given : {ask : Asked} {b b' : Book} {u u' : Run} → Given ask b u → Given ask b' u' → (b ≡ b') × (u ≡ u')
same-given {b = b} {b' = b'} {u = u} {u' = u'} g g' =
    let x : b ≡ b' = one-book b b' g.accepted.allowed g'.accepted.allowed (g.accepted.bytes ∙ sym g'.accepted.bytes) in
    let al : AllowedRun (device_of b') u = subst (λ (y : Book). AllowedRun (device_of y) u) x g.allowed in
    (x, one-run (device_of b') g'.accepted.allowed.device.n_high al g'.allowed (g.bytes_of_run ∙ sym g'.bytes_of_run))

-- the chain of a plan is the best one
best : {E : Type 0} {form : LegForm E} {b : Book} {u : Run} {r : Assembly} {x : Room E} → (a : Planned form b u r x)
    → Best (device_of b) b.weights u (items_for b) a.items
best a =
    record {
      chain = a.chain;
      least = λ ys k. omega (arith, a.sum_is, a.least_sum ys k);
      lowest = λ ys k e. a.lowest ys k (e ∙ sym a.sum_is);
    }

-- counts, sum, plan and legs
abbrev pub SamePlan : {E : Type 0} → LegForm E → Assembly → Assembly → Room E → Room E → Type 0
SamePlan form r q x y =
    (r.commands ≡ q.commands) × (r.legs ≡ q.legs) × (r.sum ≡ q.sum) × (take r.commands x.plan ≡ take q.commands y.plan)
    × (take (form.width * r.legs) x.legs ≡ take (form.width * q.legs) y.legs)

planned_unique : {E : Type 0} (form : LegForm E) (b : Book) (u : Run) {r q : Assembly} {x y : Room E} → Planned form b u r x → Planned form b u q y
    → SamePlan form r q x y
planned_unique form b u a c =
    let same : a.items ≡ c.items = best_unique (device_of b) b.weights (items_for b) u a.items c.items (best a) (best c) in (
      a.commands_counted ∙ (ap (λ (xs : List ℕ). length (plan_of (items_for b) xs)) same ∙ sym c.commands_counted),
      a.legs_counted ∙ (ap length same ∙ sym c.legs_counted),
      a.sum_is ∙ (ap (cost b.weights (items_for b)) same ∙ sym c.sum_is),
      a.plan_written ∙ (ap (plan_of (items_for b)) same ∙ sym c.plan_written),
      a.legs_written ∙ (ap (λ (xs : List ℕ). form.held (legs_of (items_for b) (last u) xs)) same ∙ sym c.legs_written),
    )

module _ {E : Type 0} (form : LegForm E) {ask : Asked} {l : AllLent E} {b : Book} {u : Run} (ready : Ready form ask l b u) where
  abbrev Is : Assembly → AllLent E → Type 0
  Is r l' = Demand form ask l r l'

  module _ {r : Assembly} {l' : AllLent E} (x : Is r l') where
    planned : r.code ≡ 0 → Planned form b u r l'.room
    planned z =
        let (b', (u', g, a)) = x.plan_given z in
        let (e, f) = same-given g ready.given in
        subst (λ (v : Run). Planned form b v r l'.room) f (subst (λ (y : Book). Planned form y u' r l'.room) e a)

    numbers_are : (r.code ≡ 0) ⊎ (r.code ≡ 11) → Numbers (device_of b) b.weights u (items_for b) r.fewest
    numbers_are z =
        let (b', (u', g, a)) = x.numbers z in
        let (e, f) = same-given g ready.given in
        subst (λ (v : Run). Numbers (device_of b) b.weights v (items_for b) r.fewest) f
        (subst (λ (y : Book). Numbers (device_of y) y.weights u' y.items r.fewest) e a)

  ok : Allowed (device_of b) b.weights (items_for b) u
  ok =
      record {
        device = device_proper b ready.given.accepted.allowed;
        weights = ready.given.accepted.allowed.weighed;
        each = ready.given.accepted.allowed.each_item;
        run = ready.given.allowed;
      }

  pub demand_unique : {r q : Assembly} {l' l'' : AllLent E} → Is r l' → Is q l''
      → (r.code ≡ q.code) × (r.fewest ≡ q.fewest) × (r.code ≡ 0 → SamePlan form r q l'.room l''.room)
  demand_unique {r} {q} {l'} {l''} x y = go (answer-right (device_of b) b.weights (items_for b) u ok)
    where
      both : (k : ℕ) → r.code ≡ k → q.code ≡ k → (k ≡ 0) ⊎ (k ≡ 11)
          → (r.code ≡ q.code) × (r.fewest ≡ q.fewest) × (r.code ≡ 0 → SamePlan form r q l'.room l''.room)
      both k e f z = (
        e ∙ sym f,
        numbers_unique (device_of b) b.weights (items_for b) u r.fewest q.fewest (numbers_are x (subst (λ (c : ℕ). (c ≡ 0) ⊎ (c ≡ 11)) (sym e) z))
            (numbers_are y (subst (λ (c : ℕ). (c ≡ 0) ⊎ (c ≡ 11)) (sym f) z)),
        λ w. planned_unique form b u (planned x w) (planned y (f ∙ (sym e ∙ w))),
      )

      go : {a : Answer} → Answers (device_of b) b.weights (items_for b) u a
          → (r.code ≡ q.code) × (r.fewest ≡ q.fewest) × (r.code ≡ 0 → SamePlan form r q l'.room l''.room)
      go (no-history n e) = absurd (n ready.path ready.history)
      go (no_chain h v n ns m e) = both 11 (x.no_chain.1 (b, (u, ready, n))) (y.no_chain.1 (b, (u, ready, n))) (inr refl)
      go (done h v xs c ns m e) = both 0 (x.gives_plan b u ready xs c.chain) (y.gives_plan b u ready xs c.chain) (inl refl)
