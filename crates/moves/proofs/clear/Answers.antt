-- Zeros, and the rest. Assumes nothing.
use Rattle.std.proofs.Common.{◌++◌, ap, drop, ◌∙◌, rules}
use Rattle.moves.proofs.Clearing.{zeros-then}
use Rattle.moves.proofs.clear.Goals as goal

pub returns : goal.returns
returns c =
    let masks = c.args.masks.now in
    ap (λ z. z ++ drop c.min-end.result masks) (c.fill.ensures.after (λ y e. search rules)) ∙ zeros-then masks c.min-end.result c.args.n c.min-end.ensures
