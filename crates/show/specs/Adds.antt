-- What a part adds to a text in a lent row, and the numbers that a row holds. Assumes nothing: these are definitions.
use Rattle.std.specs.Prelude.{◌≡◌, List, [], ◌∷◌, ℕ}
use Rattle.show.specs.Written.{Written}
use Rattle.show.specs.declared.Text.{Text}

-- the text `old` with a part behind it is `new`, in the same row
pub record Adds (old : Text) (part : List ℕ) (new : Text) : Type 0 where
  pub same_row : new.out.ghost_name ≡ old.out.ghost_name
  pub written : Written old.out.now old.end part new.out.now new.end

-- a number for each element, which its conversion may give
pub data Numbers {X : Type 0} (converts : X → ℕ → Type 0) : List X → List ℕ → Type 0 where
  none : Numbers converts [] []
  one_more : {x : X} {n : ℕ} {xs : List X} {ns : List ℕ} → converts x n → Numbers converts xs ns → Numbers converts (x ∷ xs) (n ∷ ns)
