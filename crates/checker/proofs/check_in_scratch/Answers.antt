-- `check_in_scratch` meets its contract. Assumes nothing.
use Prim.Native.Nat.{◌<◌}
use Rattle.base.specs.Lists.{Bytes}
use Rattle.base.proofs.Lists.{each_of}
use Rattle.checker.proofs.Ways.{asked, small-refused, small-judged}
use Rattle.checker.proofs.check_in_scratch.Goals as goal

pub returns-in_err-end : goal.returns-in_err-end
returns-in_err-end c =
    let bytes : Bytes c.args.book.now = each_of (λ x. x < 256) c.args.book.now 0 (λ k h. (c.type_inv.book k).fits) in
    small-refused bytes c.in_err-end.ensures.value _ c.from_residual.ensures.1

pub judge_book-requires : goal.judge_book-requires
judge_book-requires c =
    let bytes : Bytes c.args.book.now = each_of (λ x. x < 256) c.args.book.now 0 (λ k h. (c.type_inv.book k).fits) in
    asked bytes c.in_ok-end.ensures.value c.in_ok-end.ensures.bounded

pub returns : goal.returns
returns c =
    let bytes : Bytes c.args.book.now = each_of (λ x. x < 256) c.args.book.now 0 (λ k h. (c.type_inv.book k).fits) in
    small-judged bytes c.in_ok-end.ensures.value c.index.ensures _ c.judge_book.ensures
