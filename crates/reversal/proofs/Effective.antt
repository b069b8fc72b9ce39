-- Items that can never be used: none of them is wrong by the old rule too; and why it does not matter whether 'effective' is judged start by start.
-- Assumes nothing.
use mathlib.Core.Bool.{not}
use mathlib.Core.Logic.{◌↔◌}
use lib.Bits.{bit_and}
use lib.Dec.{T, eqb}
use Rattle.base.proofs.Masks.{and_in, in_and, nonzero_some, some_nonzero}
use Rattle.reversal.specs.Device.{Device, Proper}
use Rattle.reversal.specs.Reversal.{Item, Reverses, Effective}
use Rattle.reversal.specs.Computed.Sets.{reach}
use Rattle.reversal.proofs.Paths.{led→leads, leads→led}
use Rattle.reversal.proofs.Reversals.{reach_in, in_reach}

-- an item that is not effective asks nothing of its reverse commands: it is a conditional reverse plan
pub unused-reverses : (d : Device) (x : Item) → (Effective d x → ⊥) → Reverses d x
unused-reverses d x n S E hs he l = absurd (n (S, E, hs, he, l))

-- so no item is wrong by both rules
pub not-both : (d : Device) (x : Item) → (Reverses d x → ⊥) → (Effective d x → ⊥) → ⊥
not-both d x r e = r (unused-reverses d x e)

-- sent from all of psi at once, the forward commands reach an end in phi exactly where they do from some start
pub together : (d : Device) → Proper d → (x : Item) → T (not (eqb (bit_and (reach d x.psi x.forward) x.phi) 0)) ↔ Effective d x
together d proper x = (
  λ t.
      let (E, q) = nonzero_some (bit_and (reach d x.psi x.forward) x.phi) t in
      let (a, he) = and_in (reach d x.psi x.forward) x.phi E q in
      let (S, hs, l) = reach_in d proper x.forward x.psi E a in
      (S, E, hs, he, led→leads d x.forward S E l),
  λ (S, E, hs, he, l).
      some_nonzero (bit_and (reach d x.psi x.forward) x.phi) E
      (in_and (reach d x.psi x.forward) x.phi E (in_reach d proper x.forward x.psi S E hs (leads→led d x.forward S E l)) he),
)
