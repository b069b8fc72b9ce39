use Rattle.std.proofs.Common.{ap, sym, ◌∙◌, ◌<◌}
use native.Mathlib.Omega.{arith}
use borrow.Author.Tests.{not-false}
use Rattle.base.proofs.Lists.{each_of}
use Rattle.assembly.specs.Lent.{lent_room}
use Rattle.book.specs.Faults.{code_of}
use Rattle.book.specs.declared.fault.FaultAt.{FaultAt}
use Rattle.assembly.specs.Assembles.{refusal}
use Rattle.assembly.proofs.WaysOfAssemble as ways
use Rattle.assembly.proofs.WaysOfAssemble.{FineRun, fine_run}
use Rattle.assembly.proofs.planned.Goals as goal

pub returns-then-not-run_fine : goal.returns-then-not-run_fine
returns-then-not-run_fine g c =
    ways.run-refused c.requires.checked c.requires.accepted (each_of (λ x. x < 256) c.args.run.now 0 (λ i h. omega (arith, c.type_inv.run i)))
    (not-false _ (sym c.run_fine.ensures ∙ c.if-not-run_fine.true)) (c.into.ensures ∙ ap (λ (x : FaultAt). refusal (code_of x.fault) x.place) c.at.ensures)

pub returns-then-sets-eq0 : goal.returns-then-sets-eq0
returns-then-sets-eq0 g c =
    let w = fine_run (each_of (λ x. x < 256) c.args.run.now 0 (λ i h. omega (arith, c.type_inv.run i))) c.requires (sym c.run_fine.ensures ∙ c.if-not-run_fine.false) in
    ways.no_state w (ways.believing w c.beliefs.ensures (omega arith)) c.if-sets-eq0.true
    (c.into-then-sets-eq0.ensures ∙ ap (λ (x : FaultAt). refusal (code_of x.fault) x.place) c.at-then-sets-eq0.ensures)

pub bounds-points-i : goal.bounds-points-i
bounds-points-i g c =
    let w = fine_run (each_of (λ x. x < 256) c.args.run.now 0 (λ i h. omega (arith, c.type_inv.run i))) c.requires (sym c.run_fine.ensures ∙ c.if-not-run_fine.false) in
    omega (arith, ways.low w, c.last_point-i.ensures.value)

pub returns-then-sum : goal.returns-then-sum
returns-then-sum g c =
    let w = fine_run (each_of (λ x. x < 256) c.args.run.now 0 (λ i h. omega (arith, c.type_inv.run i))) c.requires (sym c.run_fine.ensures ∙ c.if-not-run_fine.false) in
    let known =
    ways.numbers-known w (ways.believing w c.beliefs.ensures (omega arith)) c.if-sets-eq0.false c.last_point-i.ensures.value c.places-places.ensures
    c.points_of-points.ensures in
    rw c.into-then-sum.ensures (ways.no_number known c.if-sum.true)

pub returns : goal.returns
returns g c =
    let w = fine_run (each_of (λ x. x < 256) c.args.run.now 0 (λ i h. omega (arith, c.type_inv.run i))) c.requires (sym c.run_fine.ensures ∙ c.if-not-run_fine.false) in
    let known =
    ways.numbers-known w (ways.believing w c.beliefs.ensures (omega arith)) c.if-sets-eq0.false c.last_point-i.ensures.value c.places-places.ensures
    c.points_of-points.ensures in
    rw c.from.ensures
    (ways.written known c.if-sum.false _ (c.write_chain-counts.ensures.walked (ways.found known c.if-sum.false (lent_room c.args.plan.now c.args.legs.now)).walkable))
