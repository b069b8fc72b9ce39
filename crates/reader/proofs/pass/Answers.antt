use borrow.Author.Rules.{rules}
use mathlib.Core.Path.{refl, sym, ◌∙◌, subst}
use Prim.Native.Nat.{ℕ}
use native.Mathlib.Omega.{arith}
use Rattle.reader.proofs.GoodMoves.{passing_onward, passing_up}
use Rattle.reader.proofs.Summing.{Summing, summing, passed, moves_passed, summed}
use Rattle.reader.proofs.pass.Goals as goal

pub loop-next-init : goal.loop-next-init
loop-next-init c =
    record { same = refl; limits = search rules; within = search rules; few = search rules; left = λ _ b a e. summing c.args.book.now b a e }

pub turn_at-requires : goal.turn_at-requires
turn_at-requires c = c.past_moves-here.ensures.1

pub loop-next-smaller : goal.loop-next-smaller
loop-next-smaller c =
    let o = rw c.in-Ok-Some.field-0-is at c.in-Ok-Some.ensures in
    omega (arith, o.past, o.within, passing_up c.past_moves-here.ensures.0)

pub loop-next-preserved : goal.loop-next-preserved
loop-next-preserved c =
    let s = c.args.book.now in
    let v = c.loop-next.invariant in
    let (p, l) = c.past_moves-here.ensures in
    let (e, _) = passing_onward v.limits p in
    let o = rw c.in-Ok-Some.field-0-is at c.in-Ok-Some.ensures in
    let (few, t) = c.with_record-tally.ensures in
    record {
      same = sym o.same ∙ (sym e ∙ v.same);
      limits = o.limits;
      within = o.within;
      few = few;
      left = λ k b a q.
          subst (λ (j : ℕ). Summing s b j c.with_record-tally.result) (sym o.place_is)
          (passed a q (moves_passed p (v.left k b a q)) (omega (arith, o.past, o.within)) _ (t k));
    }

-- the judgement of the whole is that of what is left
pub returns-in-Ok-None-clause-judged : goal.returns-in-Ok-None-clause-judged
returns-in-Ok-None-clause-judged c =
    let v = c.loop-next.invariant in
    let (e, _) = passing_onward v.limits c.past_moves-here.ensures.0 in
    let (all, _) = rw c.in-Ok-None.field-0-is at c.in-Ok-None.ensures in
    sym all ∙ (sym e ∙ v.same)

pub returns-in-Ok-None-clause-bounded : goal.returns-in-Ok-None-clause-bounded
returns-in-Ok-None-clause-bounded c = let (_, k) = passing_onward c.loop-next.invariant.limits c.past_moves-here.ensures.0 in k

pub returns-in-Ok-None-clause-summed_up : goal.returns-in-Ok-None-clause-summed_up
returns-in-Ok-None-clause-summed_up c k =
    let v = c.loop-next.invariant in
    let (_, none) = rw c.in-Ok-None.field-0-is at c.in-Ok-None.ensures in
    record {
      judged = returns-in-Ok-None-clause-judged c;
      bounded = returns-in-Ok-None-clause-bounded c;
      sums = summed c.args.book.now c.past_moves-here.result.at c.loop-next.tally c.past_moves-here.result.st v.few
          (λ b a q. moves_passed c.past_moves-here.ensures.0 (v.left k b a q)) none;
    }

pub returns-in-Err-clause-judged : goal.returns-in-Err-clause-judged
returns-in-Err-clause-judged c =
    let v = c.loop-next.invariant in
    let (e, _) = passing_onward v.limits c.past_moves-here.ensures.0 in
    rw c.at.ensures (sym c.in-Err.ensures ∙ (sym e ∙ v.same))

pub returns-in-Err-clause-summed_up : goal.returns-in-Err-clause-summed_up
returns-in-Err-clause-summed_up c k = record { judged = returns-in-Err-clause-judged c; bounded = tt; sums = tt }
