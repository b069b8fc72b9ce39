-- `judge_items` meets its contract. Assumes nothing.
use mathlib.Core.Path.{◌≡◌, sym, ap, ◌∙◌}
use Prim.Native.Nat.{ℕ, suc, ◌+◌, ◌-◌}
use Rattle.std.specs.Prelude.{Err}
use native.Mathlib.Nat.{sub-zero}
use native.Mathlib.Omega.{arith}
use Rattle.items.specs.Items.{item_in}
use Rattle.states.proofs.Laws.{mask_of}
use Rattle.checker.proofs.Items.{reach-start, reach-next, none_passed, start_state, start_none, start_back, start_fails}
use Rattle.checker.proofs.Judging.{at_first, none-wrong}
use Rattle.checker.proofs.AtItem.{at_item, forward_is, psi_is, run_is, all_units, ends_are, few_made, goes_on, never_used, turned_back}
use Rattle.checker.proofs.judge_items.Goals as goal

pub loop-at-init : goal.loop-at-init
loop-at-init g c =
    let starts = c.into_iter-at-iterator.ensures.into_iter_gives in
    let walk = c.records-at-items.ensures in
    rw starts (record { same = walk.book; walking = λ b a e. at_first _ _ b _ (rw walk.begins (c.first_item.ensures.begins b a e)) })

pub loop-start-init : goal.loop-start-init
loop-start-init g c =
    let i = at_item (λ k h. (c.type_inv.book k).fits) c.requires c.loop-at.invariant.same c.loop-at.invariant.walking c.in-Some.ensures.steps in
    let d = g.D.Outcomes.device c.args.device.now in
    rw (c.into_iter-start-iterator.ensures.into_iter_gives, c.below-start-items.ensures, c.of.ensures, c.n.ensures)
    (none_passed d (item_in c.args.book.now c.in-Some.at) c.loop-at.units c.psi-psi.result c.requires.0 (psi_is i c.psi-psi.ensures))

pub loop-j-init : goal.loop-j-init
loop-j-init g c =
    let i = at_item (λ k h. (c.type_inv.book k).fits) c.requires c.loop-at.invariant.same c.loop-at.invariant.walking c.in-Some.ensures.steps in
    let d = g.D.Outcomes.device c.args.device.now in
    let x = item_in c.args.book.now c.in-Some.at in
    let low = start_state d x c.loop-start.invariant c.in-Some-start.start _ c.in-Some-start.ensures.steps in
    reach-start d c.in-Some-start.start x.forward _ _ _ _ (omega (arith, low, c.requires.0)) c.of-in-loop-start.ensures c.add-ends.ensures
    (rw (sub-zero c.in-Some.item.k) (forward_is i _ c.u64_at-forward.ensures))

pub loop-j-preserved : goal.loop-j-preserved
loop-j-preserved g c =
    let d = g.D.Outcomes.device c.args.device.now in
    let k = c.in-Some.item.k in
    let v = c.loop-j in
    let t = c.loop-j-test.true in
    let more : k - v.j ≡ suc (k - (v.j + 1)) = omega arith in
    reach-next d c.in-Some-start.start (item_in c.args.book.now c.in-Some.at).forward v.ends.mask _ _ _ v.rest c.requires.0 c.requires.1 more v.invariant
    (mask_of c.after-ends.ensures)

pub overflow_add-units-in-loop-start : goal.overflow_add-units-in-loop-start
overflow_add-units-in-loop-start g c =
    let i = at_item (λ k h. (c.type_inv.book k).fits) c.requires c.loop-at.invariant.same c.loop-at.invariant.walking c.in-Some.ensures.steps in
    record { fits = omega (arith, few_made i c.loop-start.invariant) }

pub overflow_sub-units : goal.overflow_sub-units
overflow_sub-units g c =
    let i = at_item (λ k h. (c.type_inv.book k).fits) c.requires c.loop-at.invariant.same c.loop-at.invariant.walking c.in-Some.ensures.steps in
    let d = g.D.Outcomes.device c.args.device.now in
    let x = item_in c.args.book.now c.in-Some.at in
    let w = c.within-ends.result.mask in
    let start = c.in-Some-start.start in
    let ends = ends_are i w _ c.loop-j.j c.loop-j.rest _ start c.loop-j-test.false c.loop-j.invariant c.phi-phi.ensures (mask_of c.within-ends.ensures) in
    let back = run_is i w c.u64_at-reverse.result start c.u64_at-reverse.ensures c.in-Err.ensures in
    let fails = start_fails d x c.loop-start.invariant start _ c.in-Some-start.ensures.steps w ends (sym c.is_empty.ensures ∙ c.if-not-is_empty.true) back in
    omega (arith, fails.2, all_units i c.loop-start.units)

pub loop-start-preserved-in_default : goal.loop-start-preserved-in_default
loop-start-preserved-in_default g c =
    let i = at_item (λ k h. (c.type_inv.book k).fits) c.requires c.loop-at.invariant.same c.loop-at.invariant.walking c.in-Some.ensures.steps in
    let d = g.D.Outcomes.device c.args.device.now in
    let x = item_in c.args.book.now c.in-Some.at in
    let w = c.within-ends.result.mask in
    let start = c.in-Some-start.start in
    let ends = ends_are i w _ c.loop-j.j c.loop-j.rest _ start c.loop-j-test.false c.loop-j.invariant c.phi-phi.ensures (mask_of c.within-ends.ensures) in
    let back = run_is i w c.u64_at-reverse.result start c.u64_at-reverse.ensures c.in_default.ensures in
    start_back d x c.loop-start.invariant start _ c.in-Some-start.ensures.steps w ends _ (all_units i c.loop-start.units) (sym c.is_empty.ensures ∙ c.if-not-is_empty.true) back

pub loop-start-preserved : goal.loop-start-preserved
loop-start-preserved g c =
    let i = at_item (λ k h. (c.type_inv.book k).fits) c.requires c.loop-at.invariant.same c.loop-at.invariant.walking c.in-Some.ensures.steps in
    let d = g.D.Outcomes.device c.args.device.now in
    let x = item_in c.args.book.now c.in-Some.at in
    let w = c.within-ends.result.mask in
    let start = c.in-Some-start.start in
    let ends = ends_are i w _ c.loop-j.j c.loop-j.rest _ start c.loop-j-test.false c.loop-j.invariant c.phi-phi.ensures (mask_of c.within-ends.ensures) in
    start_none d x c.loop-start.invariant start _ c.in-Some-start.ensures.steps w ends _ (all_units i c.loop-start.units) (sym c.is_empty.ensures ∙ c.if-not-is_empty.false)

pub loop-at-preserved : goal.loop-at-preserved
loop-at-preserved g c =
    let i = at_item (λ k h. (c.type_inv.book k).fits) c.requires c.loop-at.invariant.same c.loop-at.invariant.walking c.in-Some.ensures.steps in
    let k = c.loop-at.invariant in
    let m = c.in-Some.ensures.steps in
    record { same = m.0 ∙ k.same; walking = rw m.1.3 (goes_on i c.loop-start.invariant c.in-None-start.ensures.steps.0 c.if-not-used.false) }

pub returns-in-None : goal.returns-in-None
returns-in-None g c b a e q =
    let k = c.loop-at.invariant in
    none-wrong _ _ b a e _ _ (k.walking b a e) q (rw k.same at c.in-None.ensures.steps.1.0)

pub returns-in-Err : goal.returns-in-Err
returns-in-Err g c b a e q =
    let i = at_item (λ k h. (c.type_inv.book k).fits) c.requires c.loop-at.invariant.same c.loop-at.invariant.walking c.in-Some.ensures.steps in
    let d = g.D.Outcomes.device c.args.device.now in
    let x = item_in c.args.book.now c.in-Some.at in
    let w = c.within-ends.result.mask in
    let start = c.in-Some-start.start in
    let ends = ends_are i w _ c.loop-j.j c.loop-j.rest _ start c.loop-j-test.false c.loop-j.invariant c.phi-phi.ensures (mask_of c.within-ends.ensures) in
    let back = run_is i w c.u64_at-reverse.result start c.u64_at-reverse.ensures c.in-Err.ensures in
    let fails = start_fails d x c.loop-start.invariant start _ c.in-Some-start.ensures.steps w ends (sym c.is_empty.ensures ∙ c.if-not-is_empty.true) back in
    ap Err c.wrong.ensures
    ∙ turned_back i _ (fails.0, ap (λ (v : ℕ). v - c.in-Err.behind) (all_units i c.loop-start.units) ∙ fails.1) b a e q

pub returns-then-not-used : goal.returns-then-not-used
returns-then-not-used g c b a e q =
    let i = at_item (λ k h. (c.type_inv.book k).fits) c.requires c.loop-at.invariant.same c.loop-at.invariant.walking c.in-Some.ensures.steps in
    ap Err c.wrong-then-not-used.ensures ∙ never_used i c.loop-start.invariant c.in-None-start.ensures.steps.0 c.if-not-used.true b a e q
