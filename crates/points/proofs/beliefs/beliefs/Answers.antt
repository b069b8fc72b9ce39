use Rattle.std.proofs.Common.{rules, ap, ◌∙◌, ℕ, ◌+◌, ◌-◌, get_or}
use native.Mathlib.Omega.{arith}
use Rattle.std.specs.Int.Bits.{bit_and}
use lib.ListN.{length-set}
use Rattle.states.specs.declared.StateSet.{StateSet}
use Rattle.states.specs.StateSets.{after_in, before_in}
use Rattle.states.proofs.Laws.{after-limits, before-limits}
use Rattle.runs.specs.Computed.{run_of}
use Rattle.runs.proofs.Points.{last-is, command-is, percept-is}
use Rattle.points.proofs.Passes.{forward-start, forward-next, backward_start, backward_next, backward_done}
use Rattle.points.proofs.beliefs.beliefs.Goals as goal

pub loop-j-init : goal.loop-j-init
loop-j-init g c = (
  omega arith,
  length-set c.args.sets.now 0 c.percept_at.result,
  λ hn hm.
      forward-start (g.D.Outcomes.device c.args.device.now) (run_of c.args.run.now) _ c.args.sets.now _ (search rules) (search rules)
      (c.percept_at.ensures ∙ percept-is c.args.run.now 0 (omega arith)),
)

pub loop-j-preserved : goal.loop-j-preserved
loop-j-preserved g c =
    let d = g.D.Outcomes.device c.args.device.now in
    let l = c.loop-j in
    let e = c.last_point-i.ensures.value in
    let sent = c.command_at.result in
    let seen = c.percept_at-in-loop-j.result in (
      search rules,
      length-set l.sets (l.j + 1) _ ∙ l.invariant.1,
      λ hn hm.
          forward-next d (run_of c.args.run.now) _ (l.invariant.2 hn hm) _ _ _ (search rules)
          (c.command_at.ensures ∙ command-is c.args.run.now l.j (omega (arith, e, c.loop-j-test.true)))
          (c.percept_at-in-loop-j.ensures ∙ percept-is c.args.run.now (l.j + 1) (omega (arith, e, c.loop-j-test.true)))
          (ap (λ (x : StateSet). x.mask) c.within-set.ensures ∙ ap (λ (x : StateSet). bit_and x.mask seen) c.after.ensures
          ∙ ap (λ (x : ℕ). bit_and x seen) (ap (λ (x : StateSet). after_in d sent x.mask) c.of.ensures ∙ after-limits d sent _ hn hm)),
    )

pub loop-j-2-init : goal.loop-j-2-init
loop-j-2-init g c =
    let i = c.loop-j.invariant in (
      omega arith,
      i.1,
      λ hn hm.
          backward_start (g.D.Outcomes.device c.args.device.now) (run_of c.args.run.now) _ (i.2 hn hm) (omega (arith, i.0, c.loop-j-test.false)),
    )

pub loop-j-2-preserved : goal.loop-j-2-preserved
loop-j-2-preserved g c =
    let d = g.D.Outcomes.device c.args.device.now in
    let l = c.loop-j-2 in
    let e = c.last_point-i.ensures.value in
    let sent = c.command_at-in-loop-j-2.result in (
      search rules,
      length-set l.sets (l.j - 1) _ ∙ l.invariant.1,
      λ hn hm.
          backward_next d (run_of c.args.run.now) _ (l.invariant.2 hn hm) _ _ (search rules)
          (c.command_at-in-loop-j-2.ensures ∙ command-is c.args.run.now (l.j - 1) (omega (arith, e, c.loop-j-2-test.true, l.invariant.0)))
          (ap (λ (x : StateSet). x.mask) c.before-set.ensures
          ∙ ap (λ (x : StateSet). before_in d sent x.mask (get_or l.sets (l.j - 1 + 1) 0)) c.of-in-loop-j-2.ensures
          ∙ before-limits d sent _ _ hn hm),
    )

pub returns : goal.returns
returns g c =
    record {
      believed = λ hn hm points masks.
          backward_done (g.D.Outcomes.device c.args.device.now) (run_of c.args.run.now) _ (c.loop-j-2.invariant.2 hn hm)
          (omega (arith, c.loop-j-2-test.false)) (c.last_point-i.ensures.value ∙ last-is c.args.run.now);
    }
