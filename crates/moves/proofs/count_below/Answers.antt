-- All n states are n; else the ones are counted. Assumes nothing.
use Rattle.std.proofs.Common.{◌≡◌, ℕ, ◌-◌, ◌/◌, ◌%◌, ◌^◌, ◌<◌, refl, sym, ap, ◌∙◌, arith}
use Prim.Native.Nat.{zero, suc}
use lib.Count.{ones}
use lib.Pow.{pow_pos}
use Rattle.base.specs.Cardinality.{present, cardinality}
use Rattle.base.proofs.Masks.{shl_one}
use Rattle.base.proofs.Present.{cardinality-ones, half_cardinality}
use Rattle.base.proofs.Added.{ones_below}
use Rattle.moves.proofs.count_below.Goals as goal

all-states : (n : ℕ) → cardinality n (2 ^ n - 1) ≡ n
unfolding present
all-states zero = refl
all-states (suc n) =
    let p : 0 < 2 ^ n = pow_pos n in
    let digit : (2 ^ suc n - 1) % 2 ≡ 1 = omega (arith, p) in
    let half : (2 ^ suc n - 1) / 2 ≡ 2 ^ n - 1 = omega (arith, p) in
    half_cardinality n (2 ^ suc n - 1) ∙ rw (digit, half, all-states n) (omega arith)

pub returns-then-below-all-clause-value : goal.returns-then-below-all-clause-value
returns-then-below-all-clause-value c =
    let n = c.args.n in
    let w = c.args.set in
    sym
    (sym (ones_below n w c.requires) ∙ ap ones c.if-below-all.true ∙ rw (shl_one n c.requires)
    (sym (cardinality-ones n (2 ^ n - 1) (omega (arith, pow_pos n))) ∙ all-states n))

pub returns-clause-value : goal.returns-clause-value
returns-clause-value c = c.from.ensures ∙ ones_below c.args.n c.args.set c.requires
