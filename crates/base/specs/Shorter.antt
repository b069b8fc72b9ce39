-- `LongEnough`, computed: whether one of the lent buffers is shorter than stated. Assumes nothing: these are definitions.
use Rattle.std.specs.Prelude.{Bool, true, false, List, [], ◌∷◌}
use Rattle.base.specs.Tests.{pick}
use Rattle.base.specs.Compare.{less}
use Rattle.base.specs.Sizes.{Sized}

unfoldable pub any_short : List Sized → Bool
any_short [] = false
any_short (s ∷ ss) = pick (less s.held s.stated) true (any_short ss)
