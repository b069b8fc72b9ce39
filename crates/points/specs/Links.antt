-- Whether an item fits, and the choice at a point, of the items by number, the run's bytes and the belief states, command by command;
-- specs/Rows has them as the code does. proofs/ItemsFit ties them to reversal's links. Assumes nothing: these are definitions.
use Rattle.std.specs.Prelude.{◌≡◌, Bool, List, ◌++◌, ℕ, ◌+◌, ◌-◌, ◌≤◌, ◌<◌, eqb, leb, get_or, length, replicate}
use Rattle.base.specs.Tests.{both}
use Rattle.base.specs.Bounded.{all, least, seek}
use Rattle.base.specs.Masks.{inside}
use Rattle.reversal.specs.Reversal.{Item}
use Rattle.reversal.specs.Weights.{sum_of}
use Rattle.reversal.specs.Chains.{none}
use Rattle.reversal.specs.Computed.Least.{Links, via, leasts, least_at, begins}
use Rattle.runs.specs.Computed.{command_of}
use Rattle.points.specs.Items.{Items, k_of}

-- the forward commands of item x are the run's below point j
unfoldable pub same_at : Item → List ℕ → ℕ → Bool
same_at x s j = all (λ y. eqb (get_or x.forward y 0) (command_of s (j - length x.forward + y))) (length x.forward)

unfoldable pub fits_at : Item → List ℕ → List ℕ → ℕ → Bool
fits_at x s sets j =
    let k = length x.forward in
    both (leb k j) (both (same_at x s j) (both (inside (get_or sets j 0) x.phi) (inside (get_or sets (j - k) 0) x.psi)))

-- the links by the sums of the reverse commands' weights
abbrev pub links_of : Items → List ℕ → List ℕ → List ℕ → ℕ → Links
links_of F ws s sets count = record { count = count; k = k_of F; price = λ a. sum_of ws (F a).reverse; fit = λ a. fits_at (F a) s sets; top = none }

-- of the first count items: the least number by way of one of them, and the lowest that has it
pub record Chosen (R : Links) (ns : List ℕ) (j count number item : ℕ) : Type 0 where
  pub least_is : number ≡ least R.top (via R ns j) count
  pub most : number ≤ R.top
  pub within : item ≤ count
  pub known : number < R.top → item < count
  pub here : number < R.top → via R ns j item ≡ number
  pub lowest : number < R.top → (b : ℕ) → b < item → number < via R ns j b

-- every item has a forward command
abbrev pub Moving : Items → ℕ → Type 0
Moving F count = (a : ℕ) → a < count → 1 ≤ k_of F a

-- no item has more than 8 forward commands
abbrev pub Short : Items → ℕ → Type 0
Short F count = (a : ℕ) → a < count → k_of F a ≤ 8

-- the numbers of the points 0 to j, the links' top above, and for each point that has one the lowest item that begins a chain with it
pub record Numbered (R : Links) (j : ℕ) (numbers items : List ℕ) : Type 0 where
  pub low : j ≤ 32
  pub fewest : numbers ≡ leasts R j ++ replicate (32 - j) R.top
  pub size : length items ≡ 33
  pub first : (l : ℕ) → 1 ≤ l → l ≤ j → least_at R l < R.top → get_or items l 0 ≡ seek (begins R l) 0 R.count

-- the contract of `points_of`: it speaks of books and runs within their limits
pub record PointsAs (F : Items) (ws s sets : List ℕ) (count i : ℕ) (numbers items : List ℕ) : Type 0 where
  pub numbered : count ≤ 64 → i ≤ 32 → Moving F count → Short F count → Numbered (links_of F ws s sets count) i numbers items
