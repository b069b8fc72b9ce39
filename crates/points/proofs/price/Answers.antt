use Rattle.std.proofs.Common.{rules, sym, ◌∙◌}
use Rattle.octets.proofs.Put.{length-piece, piece-get}
use Rattle.points.proofs.ReverseSum.{sum-next, sum-all}
use Rattle.points.proofs.price.Goals as goal

pub loop-x-preserved : goal.loop-x-preserved
loop-x-preserved c =
    let p = c.args.item in
    let n = length-piece p.r c.args.book.now p.reverse in
    sum-next _ _ _ _ c.loop-x.invariant (search (rules, n))
    (c.byte_at-command.ensures.value ∙ sym (piece-get p.r c.args.book.now p.reverse c.loop-x.x (search rules)))
    c.word_at-sum.ensures.value c.word_at-sum.ensures.upper_bound

pub returns : goal.returns
returns c =
    let n = length-piece c.args.item.r c.args.book.now c.args.item.reverse in
    (sum-all _ _ c.loop-x.invariant (search (rules, n)), search (rules, n))
