-- `write_chain`: a turn reads the item that point j names, goes down by its number of forward commands, and stores its reverse commands and its leg.
-- Assumes nothing.
use Rattle.std.proofs.Common.{rules, arith, ◌≡◌, ap, ◌∙◌, ◌-◌, ◌*◌, ◌≤◌}
use Rattle.std.proofs.lemmas.List.Edits.{sets}
use Rattle.reversal.specs.Reversal.{Item}
use Rattle.points.proofs.ItemsRead.{item-read, k-read, r_read}
use Rattle.chains.proofs.ChainWritten.{leg_piece, going_next, going_done}
use Rattle.chains.proofs.write_chain.Goals as goal

pub loop-j-preserved : goal.loop-j-preserved
loop-j-preserved c =
    let l = c.loop-j in
    let a = c.byte_at-a.result in
    let k = c.parts_at-item.result.k in
    let s = c.if-contains.down in
    let known = c.parts_at-item.ensures in
    let place = c.word_at.ensures.value in
    let book = c.args.book.now in
    let places = c.args.places.now in
    let down : (1 ≤ s) × (s ≤ l.j) × (1 ≤ k → k ≤ l.j → s ≡ k) = search rules in
    going_next l.invariant a k s _ c.loop-j-test.true c.byte_at-a.ensures.value (k-read book places a place known) (r_read book places a place known)
    known.r_byte down
    (c.copy.ensures ∙ ap (λ (x : Item). sets l.plan l.counts.commands x.reverse) (item-read book places a place known))
    (c.copy-in-loop-j.ensures ∙ ap (sets l.legs (3 * l.counts.legs)) (leg_piece a l.j (l.j - s)))

pub returns : goal.returns
returns c = going_done c.loop-j.invariant (omega (arith, c.loop-j-test.false))
