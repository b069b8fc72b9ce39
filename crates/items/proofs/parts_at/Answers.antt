-- Past the end no item stands; elsewhere the parts are as the counts say. Assumes nothing.
use Rattle.items.proofs.Laws.{read_parts, parts_none}
use Rattle.items.proofs.parts_at.Goals as goal

pub returns-then-book-at : goal.returns-then-book-at
returns-then-book-at c = parts_none _ _ c.if-book-at.true

pub returns : goal.returns
returns c =
    let k = c.byte_at-k.ensures in
    let r = c.byte_at-r.ensures in
    read_parts c.args.book.now c.args.at _ _ k.value r.value k.upper_bound r.upper_bound
