use mathlib.Core.Path.{ap, ◌∙◌}
use Rattle.book.specs.Limits.{fields_fine}
use Rattle.reader.proofs.Laws.{item_is}
use Rattle.reader.proofs.steps.item_fine.Goals as goal

pub returns : goal.returns
returns c =
    c.fields_fine.ensures
    ∙ ap (fields_fine c.args.n c.args.m) (item_is c.args.body.now c.args.k c.args.r c.requires _ _ c.u64_at-phi.ensures c.u64_at-psi.ensures)
