use mathlib.Core.Path.{sym, ◌∙◌}
use Rattle.reader.proofs.Summing.{adds_item}
use Rattle.reader.proofs.units.with_record.Goals as goal

pub returns : goal.returns
returns c =
    let t = adds_item c.args.book.now c.args.at c.args.so_far c.requires.0 c.parts_at-item.result c.parts_at-item.ensures c.psi.result c.psi.ensures
    c.psi.type_inv (sym c.u16_at.ensures.value ∙ c.if-u16_at.false) c.if-so_far-ge64.false _ c.max.ensures in
    (t.within, λ _. t)
