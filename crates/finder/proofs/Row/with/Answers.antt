-- `with` meets its contract: a command's value at its place fits. Assumes nothing.
use mathlib.Core.Path.{◌≡◌, ap}
use Prim.Native.Nat.{ℕ, zero, suc, ◌+◌, ◌*◌, ◌%◌, ◌^◌, ◌≤◌, ◌<◌}
use native.Mathlib.Omega.{arith}
use Rattle.finder.proofs.Row.with.Goals as goal

-- the place of the next command
placed : (k c : ℕ) → k < 3 → c < 32 → (c * 2 ^ (8 * k) % 18446744073709551616 ≡ c * 256 ^ k) × (256 ^ k ≤ 65536) × (c * 256 ^ k ≤ 2031616)
placed zero c h l = (omega (arith, l), omega arith, omega (arith, l))
placed (suc zero) c h l = (omega (arith, l), omega arith, omega (arith, l))
placed (suc (suc zero)) c h l = (omega (arith, l), omega arith, omega (arith, l))
placed (suc (suc (suc k))) c h l = absurd (omega (arith, h))

pub overflow_add-result-2 : goal.overflow_add-result-2
overflow_add-result-2 c =
    let (e, few, most) = placed c.args.self.count c.args.command c.requires.room c.requires.byte in
    omega (arith, e, few, most, c.requires.below)

pub returns-clause-number : goal.returns-clause-number
returns-clause-number c =
    ap (λ x. c.args.self.number + x) (placed c.args.self.count c.args.command c.requires.room c.requires.byte).0
