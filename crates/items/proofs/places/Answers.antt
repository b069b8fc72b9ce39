-- No book is so long as 65,536; an item passed; no more item. Assumes nothing.
use Rattle.std.proofs.Common.{◌∙◌, refl, ap, length, length-set, arith}
use Rattle.book.proofs.Largest.{length-book}
use Rattle.items.proofs.Walk.{item-comes, no_item}
use Rattle.items.proofs.places.Goals as goal

pub returns-then-book-gt65535 : goal.returns-then-book-gt65535
returns-then-book-gt65535 c = record { size = refl; begins = λ b a e i h. absurd (omega (arith, length-book b a, ap length e)) }

pub loop-i-preserved : goal.loop-i-preserved
loop-i-preserved c =
    let k = c.loop-i.invariant in
    let m = c.in-Some.ensures.steps in
    record {
      size = simp length-set k.size;
      to_come = omega arith;
      same = m.0.0.0 ∙ k.same;
      passed = λ b a e. rw (m.1, m.2) (item-comes a e k.same (k.passed b a e) m.0.0 (omega arith));
    }

pub returns : goal.returns
returns c =
    let k = c.loop-i.invariant in
    record { size = k.size; begins = λ b a e. no_item a e k.same (k.passed b a e) _ k.to_come c.in-None.ensures.steps.0 }
