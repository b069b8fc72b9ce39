-- The part that is lent is the whole record. Assumes nothing.
use Rattle.std.proofs.Common.{ap, ◌∙◌, arith, refl, ◌+◌, ◌-◌}
use Rattle.std.proofs.lemmas.List.Edits.{sets}
use Rattle.octets.proofs.Put.{sets_part}
use Rattle.book.specs.Book.{frame, move_rec}
use Rattle.writer.specs.Records.{move}
use Rattle.writer.proofs.Stores.{length-move}
use Rattle.writer.proofs.Rows.{row-none, row-some}
use Rattle.writer.proofs.records.Output.put_entry.Goals as goal

pub returns-then-mask-eq0 : goal.returns-then-mask-eq0
returns-then-mask-eq0 c =
    let e = row-none c.args.mask c.args.state c.args.command c.if-mask-eq0.true in
    record { adds = record { same_row = refl; row = rw (← e); end = rw (← e) (omega arith) }; upper_bound = omega arith }

pub returns : goal.returns
returns c =
    let a = c.args in
    let e = row-some a.mask a.state a.command c.if-mask-eq0.false in
    let size = length-move a.state a.command a.mask in
    let put = sets_part a.self.now.out.now _ a.self.now.end (a.self.now.end + 14 - a.self.now.end) (frame (move_rec (move a.state a.command a.mask))) (omega arith) (omega (arith, size))
    c.put_move.ensures in
    record { adds = record { same_row = refl; row = put ∙ ap (sets a.self.now.out.now a.self.now.end) e; end = rw (← e) (omega (arith, size)) }; upper_bound = omega arith }
