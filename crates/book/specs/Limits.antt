-- 01's and 02's limits of a device, a weight, a move and an item, computed: the tests that reading, writing and every other call make. proofs/Limits
-- ties them to `AllowedDevice`, `AllowedWeight`, `AllowedMove` and `AllowedItem`, both ways. Assumes nothing: these are definitions.
use Rattle.std.specs.Prelude.{Bool, true, false, not, List, [], ◌∷◌, ℕ}
use Rattle.base.specs.Tests.{pick}
use Rattle.base.specs.Compare.{less, at_most, same}
use Rattle.base.specs.Masks.{clear_from}
use Rattle.reversal.specs.Reversal.{Item}
use Rattle.book.specs.Book.{Move}

-- n and m
unfoldable pub device_fine : ℕ → ℕ → Bool
device_fine n m = pick (less n 1) false (pick (less 64 n) false (pick (less m 1) false (pick (less 32 m) false true)))

-- a weight
unfoldable pub weight_fine : ℕ → Bool
weight_fine w = pick (less w 1) false (pick (less 1000 w) false true)

-- each of the weights
unfoldable pub weights_fine : List ℕ → Bool
weights_fine [] = true
weights_fine (w ∷ ws) = pick (weight_fine w) (weights_fine ws) false

-- a move's state, command and mask, for a device with n states and m commands
unfoldable pub move_fine : ℕ → ℕ → Move → Bool
move_fine n m x =
    pick (at_most n x.state) false
    (pick (at_most m x.command) false (pick (same x.mask 0) false (pick (not (clear_from n x.mask)) false true)))

-- the numbers of an item's commands
unfoldable pub counts_fine : ℕ → ℕ → Bool
counts_fine k r = pick (less k 1) false (pick (less 8 k) false (pick (less 8 r) false true))

-- each of the commands is below m
unfoldable pub all_below : ℕ → List ℕ → Bool
all_below m [] = true
all_below m (c ∷ cs) = pick (less c m) (all_below m cs) false

-- an item's commands and masks, for a device with n states and m commands
unfoldable pub fields_fine : ℕ → ℕ → Item → Bool
fields_fine n m x =
    pick (not (all_below m x.forward)) false
    (pick (not (all_below m x.reverse)) false
    (pick (not (clear_from n x.phi)) false (pick (not (clear_from n x.psi)) false true)))

-- the item of these fields
abbrev pub item_with : List ℕ → List ℕ → ℕ → ℕ → Item
item_with forward reverse phi psi = record { forward = forward; reverse = reverse; phi = phi; psi = psi }

-- the move of these fields
abbrev pub move_with : ℕ → ℕ → ℕ → Move
move_with state command mask = record { state = state; command = command; mask = mask }
