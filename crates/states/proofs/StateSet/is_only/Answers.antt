-- `StateSet::is_only`: a state of the set, and none left without the lowest. Assumes nothing.
use mathlib.Core.Path.{ap, ap₂, ◌∙◌}
use mathlib.Core.Bool.{◌&&◌}
use Prim.Native.Nat.{ℕ}
use lib.Dec.{eqb}
use Rattle.std.proofs.Common.{rules}
use Rattle.states.proofs.Laws.{mask_of, only-both}
use Rattle.states.proofs.StateSet.is_only.Goals as goal

pub returns : goal.returns
returns c =
    ap₂ ◌&&◌ c.has.ensures (c.is_empty.ensures ∙ ap (λ (w : ℕ). eqb w 0) (mask_of c.without_lowest.ensures))
    ∙ only-both c.args.self.mask c.args.state (search rules)
