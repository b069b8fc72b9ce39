-- Assumes nothing.
use Rattle.std.proofs.Common.{rules, tests, ◌∙◌}
use Rattle.std.proofs.lemmas.Iterator.Search.{all_from_yields_List}
use Rattle.book.specs.Limits.{weight_fine}
use Rattle.book.specs.Parse.{weights_of}
use Rattle.book.proofs.Weights.{fine_decide}
use Rattle.reader.proofs.Weights.{weights_come, all_decides}
use Rattle.reader.proofs.steps.weights_fine.Goals as goal

pub returns : goal.returns
returns c =
    all_from_yields_List weight_fine _ _ _ c.all.ensures.ran
    (weights_come c.args.body.now c.chunks_exact.ensures.size c.chunks_exact.ensures.rest) (λ x b q k. search (rules, tests))
    ∙ all_decides fine_decide (weights_of c.args.body.now)
