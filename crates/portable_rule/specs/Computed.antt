-- The rule as the code computes it, with sets as masks. proofs/Rules ties it to the relation of specs/Portable both ways. Assumes nothing: these are
-- definitions.
use Rattle.std.specs.Prelude.{ℕ, ◌+◌, ◌-◌, ◌*◌, ◌^◌, eqb, leb}
use Rattle.std.specs.Int.Bits.{bit_or}
use Rattle.base.specs.Tests.{pick}
use Rattle.portable_rule.specs.Portable.{channel, power, mode}

-- the state with channel c, power p and mode q, alone in a set
unfoldable pub single : ℕ → ℕ → ℕ → ℕ
single c p q = 2 ^ (c + 8 * p + 16 * q)

-- the outcomes of command k in state s; 0 also where s is over 31, which makes its mode over 1, or k is over 11
unfoldable pub rule_mask : ℕ → ℕ → ℕ
rule_mask s k =
    let c = channel s in
    let p = power s in
    let q = mode s in
    pick (leb q 1)
    (pick (leb k 7) (pick (eqb q 0) (single k p q) (bit_or (single k p q) (single c p q)))
    (pick (leb k 9) (single c (k - 8) q)
    (pick (eqb k 10) (single c p 1)
    (pick (eqb k 11) (single c p 0)
    0))))
    0
