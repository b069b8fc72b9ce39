-- A weight stored, and no more weight. Assumes nothing.
use Rattle.std.proofs.Common.{◌<◌, ◌∙◌, length-set, refl, arith}
use Rattle.reader.proofs.Filling.{m_at, weighed, all-weighed}
use Rattle.reader.proofs.fill_weights.Goals as goal

pub loop-command-preserved : goal.loop-command-preserved
loop-command-preserved c =
    let k = c.loop-command.invariant in
    record {
      size = simp length-set k.size;
      weighing = λ b a e.
          let known : c.loop-command.command < b.m = omega (arith, c.byte_at-m.ensures.value ∙ m_at _ b e) in
          weighed a (k.weighing b a e) known _ (c.weight_at.ensures.weight_at.weight b a e known) _ refl;
    }

pub returns : goal.returns
returns c =
    let k = c.loop-command.invariant in
    record { each = λ b a e. all-weighed a (k.weighing b a e) (omega (arith, c.byte_at-m.ensures.value ∙ m_at _ b e)) }
