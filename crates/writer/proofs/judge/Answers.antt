-- The tests in their order. Assumes nothing.
use Rattle.std.proofs.Common.{ap, sym, ◌∙◌, arith, Err, not}
use Rattle.book.specs.Lent.{lent}
use Rattle.book.proofs.Limits.{device_on, no_device}
use Rattle.writer.proofs.Stores.{cells_below}
use Rattle.writer.proofs.Chain.{at_short, at_device, at_count, at_searches, past, stopped}
use Rattle.writer.proofs.judge.Goals as goal

pub returns-then-table-lt-TABLE_LEN : goal.returns-then-table-lt-TABLE_LEN
returns-then-table-lt-TABLE_LEN c =
    let a = c.args in
    ap Err c.at.ensures
    ∙ at_short a.n a.m a.items (lent a.table.now a.slots.now a.weights.now) a.out.now
    (λ long. omega (arith, long.0, long.1.0, long.1.1.0, long.1.1.1.0, c.then-table-lt-TABLE_LEN.either))

pub returns-then-not-device_fine : goal.returns-then-not-device_fine
returns-then-not-device_fine c =
    let a = c.args in
    ap Err c.at-then-not-device_fine.ensures
    ∙ at_device a.n a.m a.items (lent a.table.now a.slots.now a.weights.now) a.out.now (omega arith, (omega arith, (omega arith, (omega arith, tt)))) (no_device _ _ (sym c.device_fine.ensures ∙ c.if-not-device_fine.true))

pub returns-then-items-gt64 : goal.returns-then-items-gt64
returns-then-items-gt64 c =
    let a = c.args in
    ap Err c.at-then-items-gt64.ensures
    ∙ at_count a.n a.m a.items (lent a.table.now a.slots.now a.weights.now) a.out.now (omega arith, (omega arith, (omega arith, (omega arith, tt))))
    (device_on _ _ (sym c.device_fine.ensures ∙ c.if-not-device_fine.false)) c.if-items-gt64.true

pub overflow_mul-cells : goal.overflow_mul-cells
overflow_mul-cells c =
    let d = device_on _ _ (sym c.device_fine.ensures ∙ c.if-not-device_fine.false) in
    omega (arith, cells_below c.args.n c.args.m d.n_high, d.m_high)

pub judge_weights-requires : goal.judge_weights-requires
judge_weights-requires c =
    let d = device_on _ _ (sym c.device_fine.ensures ∙ c.if-not-device_fine.false) in
    omega (arith, d.m_high)

pub returns-in_err-judge_weights : goal.returns-in_err-judge_weights
returns-in_err-judge_weights c =
    at_searches _ _ _ _ _ (omega arith, (omega arith, (omega arith, (omega arith, tt)))) (ap not (sym c.device_fine.ensures ∙ c.if-not-device_fine.false)) (omega arith)
    (stopped _ _ _ _ c.in_err-judge_weights.ensures c.from_residual.ensures.1)

pub judge_entries-requires : goal.judge_entries-requires
judge_entries-requires c =
    let d = device_on _ _ (sym c.device_fine.ensures ∙ c.if-not-device_fine.false) in
    let k = cells_below c.args.n c.args.m d.n_high in
    (omega (arith, k, d.m_high), omega (arith, k, d.m_high))

pub returns-in_err-judge_entries : goal.returns-in_err-judge_entries
returns-in_err-judge_entries c =
    at_searches _ _ _ _ _ (omega arith, (omega arith, (omega arith, (omega arith, tt)))) (ap not (sym c.device_fine.ensures ∙ c.if-not-device_fine.false)) (omega arith)
    (past _ _ c.in_ok-judge_weights.ensures (stopped _ _ _ _ c.in_err-judge_entries.ensures c.from_residual-in_err-judge_entries.ensures.1))

pub returns : goal.returns
returns c =
    at_searches _ _ _ _ _ (omega arith, (omega arith, (omega arith, (omega arith, tt)))) (ap not (sym c.device_fine.ensures ∙ c.if-not-device_fine.false)) (omega arith)
    (past _ _ c.in_ok-judge_weights.ensures (past _ _ c.in_ok-judge_entries.ensures c.judge_slots.ensures))
