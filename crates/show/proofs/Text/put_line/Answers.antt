-- `show::Text::put_line` meets its contract: an empty line, one more number, and the last. Assumes nothing.
use Rattle.std.proofs.Common.{[], ◌∷◌, ◌++◌, arith}
use Rattle.std.proofs.lemmas.List.{take_more}
use lib.Seq.{take_all}
use Rattle.show.specs.Adds.{none}
use Rattle.show.specs.Show.{newline, space, field, line}
use Rattle.show.proofs.Texts.{unchanged, same_part, added, spaced_more, line_is, none_of, numbers_more}
use Rattle.show.proofs.Text.put_line.Goals as goal

pub returns-in_default-clause-adds : goal.returns-in_default-clause-adds
unfolding line
returns-in_default-clause-adds g c = ([], none_of g.T.Into.converts c.args.numbers.now c.in_default.ensures.cases, c.put_byte.ensures.adds (omega arith))

pub loop-n-init : goal.loop-n-init
loop-n-init g c = (([], none, unchanged _), omega arith)

pub loop-n-preserved : goal.loop-n-preserved
loop-n-preserved g c =
    let (ns, numbers, adds) = c.loop-n.invariant.0 in
    let more = take_more c.in-Some.others.now c.loop-n.n-index c.n-item.result c.loop-n-test.true in (
      (
        ns ++ (c.into.result ∷ []),
        rw (more, ← c.n-item.is) (numbers_more g.T.Into.converts numbers c.into.ensures),
        same_part (spaced_more ns c.into.result) (added {ys = field c.into.result space} adds c.put_field.ensures.adds),
      ),
      omega arith,
    )

pub returns-clause-adds : goal.returns-clause-adds
returns-clause-adds g c =
    let (ns, numbers, adds) = c.loop-n.invariant.0 in
    let all = take_all c.loop-n.n-index c.in-Some.others.now c.loop-n-test.false in (
      ns ++ (c.into-2.result ∷ []),
      rw (c.in-Some.ensures.cases.0) (numbers_more g.T.Into.converts (rw all at numbers) c.into-2.ensures),
      same_part (line_is ns c.into-2.result) (added {ys = field c.into-2.result newline} adds c.put_field-2.ensures.adds),
    )
