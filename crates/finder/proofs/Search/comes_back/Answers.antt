-- `comes_back` meets its contract. Assumes nothing.
use mathlib.Core.Path.{sym, ap, ◌∙◌}
use Prim.Native.Nat.{ℕ}
use Rattle.octets.specs.Le.{bytes_le}
use Rattle.states.proofs.Laws.{mask_of}
use Rattle.checker.specs.Contract.{returns_in}
use Rattle.finder.specs.Searching.{lent}
use Rattle.finder.proofs.Kept.{back_start, back_fails, back_passes}
use Rattle.finder.proofs.Search.comes_back.Goals as goal

pub loop-start-init : goal.loop-start-init
loop-start-init c =
    let s = c.args.self.now in
    rw (c.into_iter-start-iterator.ensures.into_iter_gives, c.below-start-items.ensures)
    (back_start (lent s.within) s.ends.now (bytes_le c.args.row.count c.args.row.number) s.used.mask s.within.states)

pub returns-then-not-returns : goal.returns-then-not-returns
returns-then-not-returns c =
    let s = c.args.self.now in
    let d = lent s.within in
    let row = bytes_le c.args.row.count c.args.row.number in
    back_fails d s.ends.now row c.loop-start.invariant _ _ c.in-Some.ensures.steps
    (ap (λ (w : ℕ). returns_in d w row c.in-Some.start) (sym (mask_of c.of-set.ensures)) ∙ sym c.returns.ensures ∙ c.if-not-returns.true)

pub loop-start-preserved : goal.loop-start-preserved
loop-start-preserved c =
    let s = c.args.self.now in
    let d = lent s.within in
    let row = bytes_le c.args.row.count c.args.row.number in
    back_passes d s.ends.now row c.loop-start.invariant _ _ c.in-Some.ensures.steps
    (ap (λ (w : ℕ). returns_in d w row c.in-Some.start) (sym (mask_of c.of-set.ensures)) ∙ sym c.returns.ensures ∙ c.if-not-returns.false)
