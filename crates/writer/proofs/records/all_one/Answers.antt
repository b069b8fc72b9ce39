-- Assumes nothing.
use Rattle.std.proofs.Common.{rules, tests, arith, ap, sym, ◌≡◌, ◌∙◌, get_or, take, eqb}
use lib.Seq.{take-take, length-take-le}
use Rattle.std.proofs.lemmas.Iterator.{YieldsList-from_range}
use Rattle.std.proofs.lemmas.Iterator.Search.{all_from_yields_List}
use Rattle.octets.specs.Parts.{piece}
use Rattle.octets.proofs.Put.{piece-take}
use Rattle.book.specs.Book.{all_one}
use Rattle.writer.proofs.Scans.{ones_of}
use Rattle.writer.proofs.records.all_one.Goals as goal

pub returns : goal.returns
returns c =
    let k = c.args.k in
    let w = c.args.w.now in
    let row = take k w in
    let l = length-take-le k w (omega arith) in
    let same : piece k row 0 ≡ piece k w 0 =
    piece-take k row 0 (omega (arith, l)) ∙ (take-take k k w (omega arith) ∙ sym (piece-take k w 0 (omega arith))) in
    all_from_yields_List (λ i. eqb (get_or row i 0) 1) _ _ _ c.all.ensures.ran
    (YieldsList-from_range 0 k k (search rules) (omega arith)) (λ x b q k. search (rules, tests))
    ∙ (ones_of row k 0 ∙ ap all_one same)
