-- `check_in_table` meets its contract. Assumes nothing.
use mathlib.Core.Path.{ap, ◌∙◌}
use Prim.Native.Nat.{◌<◌}
use Rattle.base.specs.Lists.{Bytes}
use Rattle.base.proofs.Lists.{each_of}
use Rattle.checker.specs.Contract.{unread}
use Rattle.checker.proofs.Ways.{asked, table_short, table_refused, table_judged}
use Rattle.checker.proofs.check_in_table.Goals as goal

pub returns-then-table-lt-TABLE_LEN : goal.returns-then-table-lt-TABLE_LEN
returns-then-table-lt-TABLE_LEN c =
    let bytes : Bytes c.args.book.now = each_of (λ x. x < 256) c.args.book.now 0 (λ k h. (c.type_inv.book k).fits) in
    table_short bytes c.if-table-lt-TABLE_LEN.true (c.into.ensures ∙ ap unread c.at.ensures)

pub returns-in_err-end : goal.returns-in_err-end
returns-in_err-end c =
    let bytes : Bytes c.args.book.now = each_of (λ x. x < 256) c.args.book.now 0 (λ k h. (c.type_inv.book k).fits) in
    table_refused bytes c.if-table-lt-TABLE_LEN.false c.in_err-end.ensures.value _ c.from_residual.ensures.1

pub judge_book-requires : goal.judge_book-requires
judge_book-requires c =
    let bytes : Bytes c.args.book.now = each_of (λ x. x < 256) c.args.book.now 0 (λ k h. (c.type_inv.book k).fits) in
    asked bytes c.in_ok-end.ensures.value c.in_ok-end.ensures.bounded

pub returns : goal.returns
returns c =
    let bytes : Bytes c.args.book.now = each_of (λ x. x < 256) c.args.book.now 0 (λ k h. (c.type_inv.book k).fits) in
    table_judged bytes c.in_ok-end.ensures.value c.if-table-lt-TABLE_LEN.false c.fill_table.ensures.entries _ c.judge_book.ensures
