-- `keep_ends` meets its contract. Assumes nothing.
use mathlib.Core.Path.{sym, ap, ◌∙◌}
use Prim.Native.Nat.{ℕ}
use native.Mathlib.Omega.{arith}
use lib.Dec.{eqb}
use Rattle.base.specs.Tests.{pick}
use Rattle.states.proofs.Laws.{mask_of}
use Rattle.states.proofs.Row.{coming_first, coming_next, coming_end}
use Rattle.finder.specs.Searching.{lent}
use Rattle.finder.proofs.Kept.{all_kept, ends_kept}
use Rattle.finder.proofs.InLimits.keep_ends.Goals as goal

pub loop-start-init : goal.loop-start-init
loop-start-init c =
    let d = c.args.self.now in
    rw (c.into_iter-start-iterator.ensures.into_iter_gives, c.below-start-items.ensures, c.of.ensures, c.of-used.ensures, ← c.sought.view_is)
    (coming_first _ _ _ _ _ d.states (all_kept (lent d) _ c.args.ends.now))

pub loop-start-preserved-then-not-is_empty : goal.loop-start-preserved-then-not-is_empty
unfolding pick
loop-start-preserved-then-not-is_empty c =
    let e = mask_of c.ends_of-set.ensures in
    let some = sym (ap (λ (w : ℕ). eqb w 0) e) ∙ sym c.is_empty.ensures ∙ c.if-not-is_empty.true in
    rw (c.add-used.ensures, e) (rw some at (coming_next _ _ _ _ _ c.loop-start.invariant _ _ c.in-Some.ensures.steps))

pub loop-start-preserved : goal.loop-start-preserved
unfolding pick
loop-start-preserved c =
    let e = mask_of c.ends_of-set.ensures in
    let none = sym (ap (λ (w : ℕ). eqb w 0) e) ∙ sym c.is_empty.ensures ∙ c.if-not-is_empty.false in
    rw none at (coming_next _ _ _ _ _ c.loop-start.invariant _ _ c.in-Some.ensures.steps)

pub returns : goal.returns
returns c =
    let d = c.args.self.now in
    ends_kept (lent d) c.args.sought.now c.args.ends.now d.states (omega arith) _ (coming_end _ _ _ _ _ c.loop-start.invariant c.in-None.ensures.steps.0)
