use Rattle.std.proofs.Common.{rules, ap, ◌≡◌, ◌∙◌, ℕ, ◌≤◌, ◌+◌, ◌-◌, set}
use native.Mathlib.Omega.{arith}
use mathlib.Core.Path.{subst}
use Rattle.reversal.specs.Reversal.{Item}
use Rattle.reversal.specs.Weights.{sum_of}
use Rattle.octets.proofs.Put.{length-piece, bytes_in, each_byte}
use Rattle.items.specs.Items.{held_in}
use Rattle.points.specs.declared.Choice.{Choice}
use Rattle.points.specs.Items.{recorded}
use Rattle.points.specs.Rows.{asks_at}
use Rattle.points.specs.Links.{fits_at, links_of, Numbered}
use Rattle.points.proofs.Asking.{asks_fits}
use Rattle.points.proofs.Rows.{none_listed, one_listed}
use Rattle.points.proofs.ItemsRead.{item-read, k-read}
use Rattle.points.proofs.Choosing.{choice-is, room, number-next}
use Rattle.points.proofs.Numbers.{numbered-start}
use Rattle.points.proofs.points_of.Goals as goal

pub loop-a-init : goal.loop-a-init
loop-a-init c = (none_listed _ _ (search rules), search rules)

pub returns-then-item-lt1 : goal.returns-then-item-lt1
returns-then-item-lt1 c =
    let k = k-read c.args.book.now c.args.places.now c.loop-a.a c.word_at.ensures.value c.parts_at-item.ensures in
    record {
      numbered = λ items points moving short.
          let low = moving c.loop-a.a c.loop-a-test.true in
          let high = short c.loop-a.a c.loop-a-test.true in
          search (rules, k, low, high);
    }

pub loop-a-preserved : goal.loop-a-preserved
loop-a-preserved c =
    let t = c.args in
    let p = c.parts_at-item.result in
    let R = links_of (recorded t.book.now t.places.now) t.weights.now t.run.now t.sets.now t.count in
    let item = item-read t.book.now t.places.now c.loop-a.a c.word_at.ensures.value c.parts_at-item.ensures in
    let k = k-read t.book.now t.places.now c.loop-a.a c.word_at.ensures.value c.parts_at-item.ensures in
    let n = length-piece p.k t.book.now p.forward in
    let low : 1 ≤ p.k = search rules in
    let high : p.k ≤ 8 = search rules in
    let fit : (j : ℕ) → j ≤ t.i → asks_at c.asked_by.result c.look_ahead.new.ahead t.sets.now j ≡ R.fit c.loop-a.a j
    = λ j b.
    asks_fits (held_in t.book.now p) c.asked_by.result c.asked_by.ensures t.run.now _ t.sets.now t.i c.look_ahead.ensures
    (each_byte t.run.now c.type_inv.run) (bytes_in p.k t.book.now p.forward (each_byte t.book.now c.type_inv.book))
    (omega (arith, n, low)) (omega (arith, n, high)) j b
    ∙ ap (λ (x : Item). fits_at x t.run.now t.sets.now j) item in (
      one_listed R t.i c.loop-a.a _ _ c.asked_by.result _ t.sets.now (search rules) c.loop-a.invariant.0 c.mark.ensures fit k
          (c.price.ensures.0 ∙ ap (λ (x : Item). sum_of t.weights.now x.reverse) item) (low, high),
      search rules,
    )

pub loop-j-init : goal.loop-j-init
loop-j-init c =
    let g = c.loop-a.invariant in
    (numbered-start _ (λ b h. (g.0.ks_fair b (omega (arith, h, g.1, c.loop-a-test.false))).0), omega arith, omega arith)

-- the items are all listed, and no point is above i
pub best-choice-requires : goal.best-choice-requires
best-choice-requires c =
    let t = c.args in
    let g = c.loop-a.invariant in (
      search rules,
      room (recorded t.book.now t.places.now) t.weights.now t.run.now t.sets.now t.count t.i c.loop-a.a (search rules) g.0
          (omega (arith, g.1, c.loop-a-test.false)) c.loop-j.fewest c.loop-j.j (search rules),
    )

pub overflow_cast-fewest-in-loop-j : goal.overflow_cast-fewest-in-loop-j
overflow_cast-fewest-in-loop-j c =
    let t = c.args in
    let g = c.loop-a.invariant in
    let h =
    choice-is (recorded t.book.now t.places.now) t.weights.now t.run.now t.sets.now t.count t.i c.loop-a.a (search rules) g.0
    (omega (arith, g.1, c.loop-a-test.false)) c.loop-j.fewest c.loop-j.j (search rules) in
    omega (arith, h.most, ap (λ (x : Choice). x.number) c.best-choice.ensures)

pub loop-j-preserved : goal.loop-j-preserved
loop-j-preserved c =
    let t = c.args in
    let g = c.loop-a.invariant in
    let R = links_of (recorded t.book.now t.places.now) t.weights.now t.run.now t.sets.now t.count in
    let e : c.loop-j.j ≡ c.loop-j.j + 1 - 1 = omega arith in (
      subst (λ (x : ℕ). Numbered R x (set c.loop-j.fewest c.loop-j.j c.best-choice.result.number) (set c.loop-j.items c.loop-j.j c.best-choice.result.item)) e
          (number-next (recorded t.book.now t.places.now) t.weights.now t.run.now t.sets.now t.count t.i c.loop-a.a (search rules) g.0
          (omega (arith, g.1, c.loop-a-test.false)) c.loop-j.fewest c.loop-j.j (search rules) c.loop-j.invariant.1 (search rules) c.best-choice.result
          c.loop-j.invariant.0 c.best-choice.ensures),
      omega arith,
      search rules,
    )

pub returns-else-i-gt32 : goal.returns-else-i-gt32
returns-else-i-gt32 c =
    let t = c.args in
    let R = links_of (recorded t.book.now t.places.now) t.weights.now t.run.now t.sets.now t.count in
    let e : c.loop-j.j - 1 ≡ t.i = omega (arith, c.loop-j-test.false, c.loop-j.invariant.1, c.loop-j.invariant.2) in
    record { numbered = λ items points moving short. subst (λ (x : ℕ). Numbered R x c.loop-j.fewest c.loop-j.items) e c.loop-j.invariant.0 }

pub returns-else-i-gt32-2 : goal.returns-else-i-gt32-2
returns-else-i-gt32-2 c =
    let t = c.args in
    let g = c.loop-a.invariant in
    let R = links_of (recorded t.book.now t.places.now) t.weights.now t.run.now t.sets.now t.count in
    let e : c.loop-j.j ≡ t.i = search rules in
    record {
      numbered = λ items points moving short.
          subst (λ (x : ℕ). Numbered R x (set c.loop-j.fewest c.loop-j.j c.best-choice.result.number) (set c.loop-j.items c.loop-j.j c.best-choice.result.item)) e
          (number-next (recorded t.book.now t.places.now) t.weights.now t.run.now t.sets.now t.count t.i c.loop-a.a items g.0
          (omega (arith, g.1, c.loop-a-test.false)) c.loop-j.fewest c.loop-j.j (search rules) c.loop-j.invariant.1 (search rules) c.best-choice.result
          c.loop-j.invariant.0 c.best-choice.ensures);
    }
