-- The states that are in a set, lowest first (02, CR 4), for the reader. Assumes nothing: these are definitions.
use Rattle.std.specs.Prelude.{◌≡◌, ◌⊎◌, List, [], ◌∷◌, ℕ, ◌<◌}
use Rattle.base.specs.Sets.{In}
use Rattle.base.specs.Lists.{Each}

-- in ascending order
abbrev pub Ascending : List ℕ → Type 0
Ascending [] = Unit {0}
Ascending (s ∷ xs) = Each (λ t. s < t) xs × Ascending xs

-- s stands in the row
abbrev pub Among : ℕ → List ℕ → Type 0
Among s [] = ⊥
Among s (x ∷ xs) = (s ≡ x) ⊎ Among s xs

-- 02: "the states present, lowest first": the row of those of n states that are in w; "the number of states present" is its length
pub record Present (n w : ℕ) (xs : List ℕ) : Type 0 where
  pub ascending : Ascending xs
  pub each_there : Each (λ s. (s < n) × In w s) xs
  pub none_missing : (s : ℕ) → s < n → In w s → Among s xs

-- 02: "the lowest"
pub record LowestState (w s : ℕ) : Type 0 where
  pub there : In w s
  pub first : (t : ℕ) → t < s → In w t → ⊥
