-- `only_to` meets its contract. Assumes nothing.
use mathlib.Core.Path.{◌≡◌, sym, ap, ◌∙◌, subst}
use Prim.Native.Nat.{ℕ, suc}
use native.Mathlib.Numerals.{add-one}
use native.Mathlib.Nat.{pow-suc}
use lib.Bits.{bit_or}
use lib.Dec.{eqb}
use borrow.Author.Tests.{eq-eqb, ne_eqb}
use Rattle.states.proofs.Laws.{outcomes-limits}
use Rattle.finder.specs.Contract.{Passing}
use Rattle.finder.specs.Searching.{lent}
use Rattle.finder.proofs.Passes.{mark_yes, mark_no}
use Rattle.finder.proofs.InLimits.only_to.Goals as goal
use Rattle.finder.proofs.InLimits.only_to.Goals.{then-outcomes-goal, else-outcomes-goal}

pub loop-c-preserved : goal.loop-c-preserved
loop-c-preserved c =
    let l = c.loop-c in
    let a = c.args in
    let d = lent a.self.now in
    let f = λ (x : ℕ). eqb (d.outcomes a.state x) a.goal in
    let here : f l.c ≡ eqb c.outcomes.result a.goal
    = ap (λ (x : ℕ). eqb x a.goal) (sym (c.outcomes.ensures ∙ outcomes-limits d a.state l.c a.self.now.states a.self.now.commands)) in
    let found : Passing (suc l.c) f c.if-outcomes-goal.found = elim c.if-outcomes-goal.branch [
      | then-outcomes-goal w ↦
          subst (Passing (suc l.c) f) (sym (w.found-is ∙ ap (bit_or l.found) l.invariant.0))
          (mark_yes f l.c l.found l.invariant.1 (here ∙ eq-eqb _ _ w.if-outcomes-goal.true))
      | else-outcomes-goal w ↦
          subst (Passing (suc l.c) f) (sym w.found-is) (mark_no f l.c l.found l.invariant.1 (here ∙ ne_eqb _ _ w.if-outcomes-goal.false))
    ] in
    rw (add-one, l.invariant.0) (sym (pow-suc 2 l.c), found)
