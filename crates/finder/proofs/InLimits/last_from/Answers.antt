-- `last_from` meets its contract. Assumes nothing.
use mathlib.Core.Path.{◌≡◌, refl, sym, ◌∙◌, subst}
use mathlib.Core.Bool.{Bool, false}
use mathlib.Core.List.{List, ◌∷◌}
use Prim.Native.Nat.{ℕ, ◌^◌}
use lib.Bits.{bit_and}
use lib.Dec.{eqb}
use borrow.Author.Tests.{eqb-true, eqb-false}
use Rattle.reversal.specs.Device.{Device}
use Rattle.states.proofs.Laws.{mask_of, one_state}
use Rattle.finder.specs.Contract.{Passing}
use Rattle.finder.specs.Searching.{lent}
use Rattle.finder.proofs.Passes.{pass_of}
use Rattle.finder.proofs.Last.{Asking, ask_next, ask_end, ask_none, to_start, from_start, from_empty, from_all}
use Rattle.finder.proofs.InLimits.last_from.Goals as goal

-- the commands that lead from one more state to the start alone too
next_from : (d : Device) (S : ℕ) (whole : ℕ → Bool) (left : ℕ) (states : List ℕ) → Asking (to_start d S) d.n d.m whole left states
    → (s : ℕ) (states' : List ℕ) → states ≡ s ∷ states' → (goal : ℕ) → goal ≡ 2 ^ S → (w : ℕ) → Passing d.m (λ c. eqb (d.outcomes s c) goal) w
    → Asking (to_start d S) d.n d.m whole (bit_and left w) states'
next_from d S whole left states a s states' split goal alone w p =
    ask_next (to_start d S) d.n d.m whole left states a s states' split _
    (pass_of d.m left w (subst (λ (x : ℕ). Passing d.m (λ c. eqb (d.outcomes s c) x) w) alone p))

-- the set has a state below n
some_state : {low rest : ℕ} {none : Bool} → rest ≡ low → none ≡ eqb rest 0 → none ≡ false → low ≡ 0 → ⊥
some_state e q f z = eqb-false _ 0 (sym q ∙ f) (e ∙ z)

pub returns-then-is_empty : goal.returns-then-is_empty
returns-then-is_empty c =
    let a = c.args in
    from_empty (lent a.self.now) a.start a.self.now.device.m a.commands a.set.mask c.below-rest.result.mask (mask_of c.below-rest.ensures)
    (eqb-true _ 0 (sym c.is_empty.ensures ∙ c.if-is_empty.true))

pub loop-state-init : goal.loop-state-init
loop-state-init c =
    let a = c.args in
    let d = lent a.self.now in
    rw (c.into_iter-state-iterator.ensures.into_iter_gives, c.below-rest.ensures)
    (from_start d a.start d.m a.commands a.set.mask _ refl a.self.now.states c.requires.commands)

pub returns-then-left-eq0 : goal.returns-then-left-eq0
returns-then-left-eq0 c =
    let a = c.args in
    let l = c.loop-state in
    let d = lent a.self.now in
    from_all d a.start d.m a.commands a.set.mask _ refl (some_state (mask_of c.below-rest.ensures) c.is_empty.ensures c.if-is_empty.false) 0
    (ask_none (to_start d a.start) d.n d.m _ _ _
    (next_from d a.start _ l.left _ l.invariant _ _ c.in-Some.ensures.steps _
    (one_state a.start c.requires.start c.of.ensures c.add-goal.ensures) _ c.only_to-left.ensures)
    c.if-left-eq0.true)

pub loop-state-preserved : goal.loop-state-preserved
loop-state-preserved c =
    let a = c.args in
    let l = c.loop-state in
    next_from (lent a.self.now) a.start _ l.left _ l.invariant _ _ c.in-Some.ensures.steps _
    (one_state a.start c.requires.start c.of.ensures c.add-goal.ensures) _ c.only_to-left.ensures

pub returns : goal.returns
returns c =
    let a = c.args in
    let d = lent a.self.now in
    from_all d a.start d.m a.commands a.set.mask _ refl (some_state (mask_of c.below-rest.ensures) c.is_empty.ensures c.if-is_empty.false) _
    (ask_end (to_start d a.start) d.n d.m _ _ _ c.loop-state.invariant c.in-None.ensures.steps.0)
