-- Its head, and then its commands and masks, each in a part of its own. Assumes nothing.
use Rattle.std.proofs.Common.{◌≡◌, ap, ◌∙◌, arith, ◌+◌, ◌-◌, length, refl}
use Rattle.std.proofs.lemmas.List.Edits.{sets}
use Rattle.book.specs.Slots.{item_at}
use Rattle.slots.specs.Stored.{parts_of}
use Rattle.writer.specs.Records.{item_head}
use Rattle.writer.proofs.Stores.{length_head, two_parts, parts_size, item_record, item-size}
use Rattle.writer.proofs.records.Output.put_item.Goals as goal

pub returns : goal.returns
returns c =
    let a = c.args in
    let x = item_at a.s.now a.a in
    let k = c.k-k.result in
    let r = c.r-r.result in
    let ek : k ≡ length x.forward = c.k-k.ensures.0 in
    let er : r ≡ length x.reverse = c.r-r.ensures.0 in
    let size = item-size x k r ek er in
    let stored = c.put_parts.ensures (record { room = c.requires.0; forward = ek; reverse = er; few = omega arith; few_reverse = omega arith }) in
    record {
      adds = record {
        same_row = refl;
        row =
            two_parts a.self.now.out.now _ _ a.self.now.end (a.self.now.end + 6 - a.self.now.end) (a.self.now.end + 6) (a.self.now.end + 6 + 16 + k + r - (a.self.now.end + 6)) (item_head k r) (parts_of x) (omega arith)
            (omega arith) (omega (arith, length_head k r)) (omega (arith, parts_size x k r ek er)) c.put_head.ensures stored
            ∙ ap (sets a.self.now.out.now a.self.now.end) (item_record x k r ek er (omega arith) (omega arith));
        end = omega (arith, size);
      };
      upper_bound = omega arith;
    }
