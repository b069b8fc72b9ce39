-- The book's parts, one after the other. Assumes nothing.
use Rattle.std.proofs.Common.{rules, ◌≡◌, ap, ◌∙◌, arith, ◌+◌, ◌*◌, ◌++◌, length, length-append}
use Rattle.std.proofs.lemmas.List.Edits.{sets}
use lib.Seq.{length-sets}
use Rattle.octets.specs.Parts.{piece}
use Rattle.octets.proofs.Put.{first, then}
use Rattle.book.specs.Buffers.{book_from}
use Rattle.book.specs.Book.{bytes_of, frame, framed, device_rec, weights_recs}
use Rattle.book.specs.Lent.{lent}
use Rattle.book.proofs.Scanning.{length-frame}
use Rattle.writer.specs.Records.{moves_bytes, items_bytes}
use Rattle.writer.proofs.Stores.{cells_below, bytes_of_book}
use Rattle.writer.proofs.records.put_book.Goals as goal

pub put_moves-requires : goal.put_moves-requires
put_moves-requires c =
    let k = cells_below c.args.n c.args.m (omega arith) in
    (omega arith, omega arith, omega arith, omega arith)

pub put_items-requires : goal.put_items-requires
put_items-requires c =
    let k = cells_below c.args.n c.args.m (omega arith) in
    let same = ap length c.put_moves.ensures.adds.row ∙ length-sets c.put_weights-end.new.d c.put_weights-end.result (moves_bytes (c.args.n * c.args.m) c.args.table.now 0 c.args.m) in
    (omega arith, omega arith, omega (arith, same), c.requires.3)

pub returns : goal.returns
returns c =
    let a = c.args in
    let l = lent a.table.now a.slots.now a.weights.now in
    let D = frame (device_rec a.n a.m) in
    let W = framed (weights_recs (piece a.m l.weights 0)) in
    let M = moves_bytes (a.n * a.m) l.table 0 a.m in
    let I = items_bytes a.c l.slots 0 in
    let q = c.put_weights-end.result in
    let p = c.put_moves.new.self.end in
    let eq : q ≡ 6 + length W = c.put_weights-end.ensures.value in
    let ep : p ≡ q + length M = c.put_moves.ensures.adds.end in
    let ld : length D ≡ 6 = length-frame (device_rec a.n a.m) in
    let b = bytes_of_book a.n a.m a.c l in
    let whole : c.put_items.new.self.out.now ≡ sets a.out.now 0 (bytes_of (book_from a.n a.m a.c l)) =
    (then (then (then (first a.out.now 0 D c.put_device.ensures)
    6 W (omega arith) c.put_weights-end.ensures.d_after)
    q M (omega (arith, length-append D W)) c.put_moves.ensures.adds.row)
    p I (omega (arith, length-append (D ++ W) M, length-append D W)) c.put_items.ensures.adds.row).is
    ∙ ap (sets a.out.now 0) b in
    record {
      out_after = search rules ∙ whole;
      value = omega (arith, c.put_items.ensures.adds.end, ap length b, length-append (D ++ W ++ M) I, length-append (D ++ W) M, length-append D W);
    }

pub put_weights-end-requires : goal.put_weights-end-requires
put_weights-end-requires c = (omega arith, omega arith)
