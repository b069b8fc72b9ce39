-- A row of commands judged one by one. Assumes nothing.
use mathlib.Core.Path.{◌≡◌, refl}
use mathlib.Core.Bool.{Bool, true, false, ◌&&◌}
use mathlib.Core.List.{List, [], ◌∷◌}
use Prim.Native.Nat.{ℕ}
use lib.Dec.{ltb}
use Rattle.std.specs.List.{list_all}
use Rattle.base.specs.Tests.{pick}
use Rattle.base.specs.Compare.{less}
use Rattle.book.specs.Limits.{all_below}

and-pick : (b x y : Bool) → x ≡ y → (b && x) ≡ pick b y false
unfolding pick
and-pick true x y e = e
and-pick false x y e = refl

pub all-below : (m : ℕ) (cs : List ℕ) → list_all (λ c. ltb c m) cs ≡ all_below m cs
unfolding all_below less
all-below m [] = refl
all-below m (c ∷ cs) = and-pick (ltb c m) _ _ (all-below m cs)
