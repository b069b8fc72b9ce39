-- `check_into` meets its contract. Assumes nothing.
use Rattle.checker.proofs.Ways.{passed_on, read_asked, judged}
use Rattle.checker.proofs.check_into.Goals as goal

pub returns-in_err-end : goal.returns-in_err-end
returns-in_err-end c = passed_on c.in_err-end.ensures _ c.from_residual.ensures.1

pub judge_book-requires : goal.judge_book-requires
judge_book-requires c = read_asked c.in_ok-end.ensures

pub returns : goal.returns
returns c = judged c.in_ok-end.ensures _ c.judge_book.ensures
