-- Following the items from a point down: the chain, its plan and its legs, of the items by number and the item that each point names.
-- proofs/FollowedIsChosen ties them to the chosen chain. Assumes nothing: these are definitions.
use Rattle.std.specs.Prelude.{◌≡◌, List, [], ◌∷◌, ◌++◌, ℕ, zero, suc, ◌-◌, ◌≤◌, get_or, length}
use Rattle.std.proofs.lemmas.List.Edits.{sets}
use Rattle.points.specs.Items.{Items, k_of}
use Rattle.chains.specs.declared.Counts.{Counts}

-- the items from point j down, at most f of them
unfoldable pub followed : Items → List ℕ → ℕ → ℕ → List ℕ
followed F items zero j = []
followed F items (suc f) zero = []
followed F items (suc f) (suc j) = get_or items (suc j) 0 ∷ followed F items f (suc j - k_of F (get_or items (suc j) 0))

-- each of them goes down, and not below 0
unfoldable pub Steps : Items → List ℕ → ℕ → ℕ → Type 0
Steps F items zero j = j ≡ 0
Steps F items (suc f) zero = Unit {0}
Steps F items (suc f) (suc j) =
    (1 ≤ k_of F (get_or items (suc j) 0)) × (k_of F (get_or items (suc j) 0) ≤ suc j)
    × Steps F items f (suc j - k_of F (get_or items (suc j) 0))

-- their reverse commands
unfoldable pub plan_in : Items → List ℕ → List ℕ
plan_in F [] = []
plan_in F (a ∷ xs) = (F a).reverse ++ plan_in F xs

-- three bytes a leg: item number, upper point, lower point
abbrev pub leg_bytes : ℕ → ℕ → ℕ → List ℕ
leg_bytes a upper lower = a ∷ upper ∷ lower ∷ []

unfoldable pub legs_in : Items → ℕ → List ℕ → List ℕ
legs_in F j [] = []
legs_in F j (a ∷ xs) = leg_bytes a j (j - k_of F a) ++ legs_in F (j - k_of F a) xs

-- the chain from i, and what a walk down it asks
abbrev pub walk : Items → List ℕ → ℕ → List ℕ
walk F items i = followed F items i i

pub record Walkable (F : Items) (items : List ℕ) (i : ℕ) : Type 0 where
  pub low : i ≤ 32
  pub steps : Steps F items i i

-- what the walk leaves and counts
pub record Walked (F : Items) (items : List ℕ) (i : ℕ) (plan legs : List ℕ) (r : Counts) (plan' legs' : List ℕ) : Type 0 where
  pub plan_is : plan' ≡ sets plan 0 (plan_in F (walk F items i))
  pub legs_is : legs' ≡ sets legs 0 (legs_in F i (walk F items i))
  pub commands_is : r.commands ≡ length (plan_in F (walk F items i))
  pub count_is : r.legs ≡ length (walk F items i)

-- the contract of `write_chain`: it speaks of chains that can be walked
pub record WalkedAs (F : Items) (items : List ℕ) (i : ℕ) (plan legs : List ℕ) (r : Counts) (plan' legs' : List ℕ) : Type 0 where
  pub walked : Walkable F items i → Walked F items i plan legs r plan' legs'
