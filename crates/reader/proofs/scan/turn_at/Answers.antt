use Rattle.reader.proofs.Turns.{handed_on, over_empty, over_end, over_short, goes, stops}
use Rattle.reader.proofs.scan.turn_at.Goals as goal

pub returns-in_err-head : goal.returns-in_err-head
returns-in_err-head c =
    let (torn, is) = c.in_err-head.ensures in
    handed_on c.args.s.now c.args.here.at c.args.here.st c.from_residual.result c.from_residual.ensures.1 (rw is (over_short c.args.s.now c.args.here.at c.args.here.st torn))

pub returns-in-AtStart : goal.returns-in-AtStart
returns-in-AtStart c = over_empty c.args.s.now c.args.here.at c.args.here.st (rw c.in_default.is at c.in_ok-head.ensures) c.in-AtStart.is

pub returns-in_default-phase : goal.returns-in_default-phase
returns-in_default-phase c =
    let e = rw c.in_default.is at c.in_ok-head.ensures in
    (over_end c.args.s.now c.args.here.at c.args.here.st e c.in_default-phase.not-AtStart, e)

pub returns-in_err-st : goal.returns-in_err-st
returns-in_err-st c =
    let h = rw c.in-Some.is at c.in_ok-head.ensures in
    handed_on c.args.s.now c.args.here.at c.args.here.st c.from_residual-in_err-st.result c.from_residual-in_err-st.ensures.1
    (stops c.args.s.now c.args.here.at c.args.here.st c.in-Some.head.len c.in-Some.head.kind h _ c.record_step.ensures.value _ c.in_err-st.was)

pub returns : goal.returns
returns c =
    let h = rw c.in-Some.is at c.in_ok-head.ensures in
    goes c.args.s.now c.args.here.at c.args.here.st c.in-Some.head.len c.in-Some.head.kind h _ c.record_step.ensures.value c.in_ok-st.st c.in_ok-st.was
    c.in_ok-st.ensures.bounded
