use Rattle.std.proofs.Common.{refl}
use Rattle.base.proofs.Masks.{in_member}
use Rattle.base.proofs.Tests.{T_true}
use Rattle.base.proofs.Parts.{each_map}
use Rattle.base.proofs.Present.{present-is}
use Rattle.states.proofs.Row.{coming_next}
use Rattle.points.proofs.BestItem.{cheaper_yes, cheaper_no}
use Rattle.points.proofs.best.Goals as goal

pub loop-a-init : goal.loop-a-init
loop-a-init c =
    rw (c.into_iter-a-iterator.ensures.into_iter_gives, c.of-a-items.ensures) (
      record { below = each_map (λ s (l, h). l) _ (present-is 64 c.args.row).each_there; gives = refl },
      each_map (λ s (l, h). c.requires.1 s (T_true _ (in_member c.args.row s h))) _ (present-is 64 c.args.row).each_there,
    )

pub overflow_sub-low : goal.overflow_sub-low
overflow_sub-low c = (rw c.in-Some.ensures.steps at c.loop-a.invariant.1).0

pub loop-a-preserved-then-sum-choice : goal.loop-a-preserved-then-sum-choice
loop-a-preserved-then-sum-choice c = (
  rw (cheaper_yes c.args.ks.now c.args.prices.now c.args.fewest.now c.args.j c.loop-a.choice.number c.loop-a.choice.item c.in-Some.a _ _ c.from.ensures c.from-in-loop-a.ensures c.if-sum-choice.true)
      (coming_next _ _ _ _ _ c.loop-a.invariant.0 _ _ c.in-Some.ensures.steps),
  (rw c.in-Some.ensures.steps at c.loop-a.invariant.1).1,
)

pub loop-a-preserved : goal.loop-a-preserved
loop-a-preserved c = (
  rw (cheaper_no c.args.ks.now c.args.prices.now c.args.fewest.now c.args.j c.loop-a.choice.number c.loop-a.choice.item c.in-Some.a _ _ c.from.ensures c.from-in-loop-a.ensures c.if-sum-choice.false)
      (coming_next _ _ _ _ _ c.loop-a.invariant.0 _ _ c.in-Some.ensures.steps),
  (rw c.in-Some.ensures.steps at c.loop-a.invariant.1).1,
)
