-- The 64 masks cleared, a move passed, and no more move. Assumes nothing.
use Rattle.std.proofs.Common.{◌∙◌, ap, drop, arith}
use Rattle.moves.proofs.Clearing.{drop-zeroed}
use Rattle.moves.proofs.Rows.{rest_stays}
use Rattle.moves.proofs.Indexing.{indexing, indexed-comes, all-indexed}
use Rattle.moves.proofs.index.Goals as goal

pub loop-at-init : goal.loop-at-init
loop-at-init c =
    let first = c.move_records-at-items.ensures in
    let gives = c.into_iter-at-iterator.ensures.into_iter_gives in
    record {
      same = rw gives first.book;
      room = omega arith;
      rest = ap (drop 64) c.clear.ensures ∙ drop-zeroed 64 _;
      indexing = λ b a e. rw gives (indexing c.args.masks.now _ a (first.first_move.begins b a e) c.clear.ensures);
    }

pub loop-at-preserved : goal.loop-at-preserved
loop-at-preserved c =
    let k = c.loop-at.invariant in
    let m = c.in-Some.ensures.steps in
    record {
      same = m.0 ∙ k.same;
      room = omega arith;
      rest = ap (drop 64) c.add_move.ensures ∙ (rest_stays _ _ _ ∙ k.rest);
      indexing = λ b a e. indexed-comes a e k.room k.same (k.indexing b a e) m c.add_move.ensures;
    }

pub returns : goal.returns
returns c =
    let k = c.loop-at.invariant in
    let m = c.in-None.ensures.steps in
    record { rest = k.rest; entries = λ b a e room q command h _. all-indexed (k.indexing b a e) (rw k.same at m.1.0) q command h }
