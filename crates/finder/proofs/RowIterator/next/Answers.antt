-- An iterator over a row's commands gives the first, and then the others. Assumes nothing.
use mathlib.Core.Path.{◌≡◌, ap}
use mathlib.Core.List.{[], ◌∷◌}
use Prim.Native.Nat.{ℕ, zero, suc, ◌-◌, ◌/◌, ◌%◌}
use native.Mathlib.Omega.{arith}
use lib.ListN.{length}
use Rattle.std.proofs.Common.{rules}
use Rattle.octets.specs.Le.{bytes_le}
use Rattle.finder.proofs.RowIterator.next.Goals as goal

row_end : (count number : ℕ) → count ≡ 0 → bytes_le count number ≡ []
unfolding bytes_le
row_end count number e = rw e

row_next : (count number : ℕ) → (count ≡ 0 → ⊥) → bytes_le count number ≡ number % 256 ∷ bytes_le (count - 1) (number / 256)
unfolding bytes_le
row_next zero number some = absurd (omega (arith, some))
row_next (suc k) number some = let e : suc k - 1 ≡ k = omega arith in rw e

pub returns-then-self-eq0-clause-steps : goal.returns-then-self-eq0-clause-steps
returns-then-self-eq0-clause-steps c = let e = row_end _ _ c.if-self-eq0.true in (e, e)

pub returns-clause-steps : goal.returns-clause-steps
returns-clause-steps c = row_next _ _ c.if-self-eq0.false

pub returns-clause-goes : goal.returns-clause-goes
returns-clause-goes c =
    let row = c.args.self.now in
    let e = row_next row.count row.number c.if-self-eq0.false in
    search (rules, ap length e)
