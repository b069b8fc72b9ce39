-- What is read once of each item, the items that fit from a point as the bits of a number, and the choice among them, as the code has them.
-- proofs/Asking, Rows and BestItem tie them to specs/Links. Assumes nothing: these are definitions.
use Rattle.std.specs.Prelude.{◌≡◌, Bool, ℕ, ◌+◌, ◌-◌, ◌*◌, ◌^◌, ◌≤◌, ◌<◌, eqb, leb, ltb, get_or, length}
use mathlib.Core.List.{List, foldl}
use Rattle.std.specs.Int.Bits.{bit_and}
use Rattle.base.specs.Tests.{pick, both}
use Rattle.base.specs.Cardinality.{present}
use Rattle.base.specs.Masks.{added, inside}
use Rattle.reversal.specs.Reversal.{Item}
use Rattle.reversal.specs.Chains.{none}
use Rattle.octets.specs.Parts.{le, le_at}
use Rattle.points.specs.declared.Asked.{Asked}
use Rattle.points.specs.declared.Choice.{Choice}

-- what item x asks: its forward commands as one number, and the mask of as many bytes
pub record AskedOf (x : Item) (q : Asked) : Type 0 where
  pub k_is : q.k ≡ length x.forward
  pub mask_is : q.mask ≡ 2 ^ (8 * length x.forward) - 1
  pub commands_is : q.commands ≡ le x.forward
  pub phi_is : q.phi ≡ x.phi
  pub psi_is : q.psi ≡ x.psi

-- the 8 bytes from each command of the run s below point i on, as a number
abbrev pub Ahead : List ℕ → ℕ → List ℕ → Type 0
Ahead s i ahead = (j : ℕ) → j < i → get_or ahead j 0 ≡ le_at 8 s (5 + j)

-- whether the item fits from point j
unfoldable pub asks_at : Asked → List ℕ → List ℕ → ℕ → Bool
asks_at q ahead sets j =
    let low = j - q.k in
    both (leb q.k j)
    (both (eqb (bit_and (get_or ahead low 0) q.mask) q.commands) (both (inside (get_or sets j 0) q.phi) (inside (get_or sets low 0) q.psi)))

-- item a is added at the points up to i from which it fits
pub record Marked (q : Asked) (ahead sets : List ℕ) (a i : ℕ) (rows rows' : List ℕ) : Type 0 where
  pub size : length rows' ≡ 33
  pub each : (j : ℕ) → j ≤ i → get_or rows' j 0 ≡ pick (asks_at q ahead sets j) (added (get_or rows j 0) a) (get_or rows j 0)

-- item a where its way is the cheaper
unfoldable pub cheaper : List ℕ → List ℕ → List ℕ → ℕ → Choice → ℕ → Choice
cheaper ks prices ns j c a =
    let sum = get_or prices a 0 + get_or ns (j - get_or ks a 0) 0 in
    pick (ltb sum c.number) (record { number = sum; item = a }) c

-- the choice among the items of a row, lowest first
abbrev pub cheapest : List ℕ → List ℕ → List ℕ → ℕ → ℕ → Choice
cheapest ks prices ns j row = foldl (cheaper ks prices ns j) (record { number = none; item = 0 }) (present 64 row)
