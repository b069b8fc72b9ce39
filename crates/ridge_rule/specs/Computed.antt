-- The rule as the code computes it, with sets as masks. proofs/Rules ties it to the relation of specs/Ridge both ways. Assumes nothing: these are
-- definitions.
use Rattle.std.specs.Prelude.{ℕ, ◌+◌, ◌-◌, ◌*◌, ◌^◌, eqb, leb, ltb}
use Rattle.std.specs.Int.Bits.{bit_or}
use Rattle.base.specs.Tests.{pick}
use Rattle.base.specs.Bounded.{union}
use Rattle.ridge_rule.specs.Ridge.{channel, power, mode}

-- the state with channel c, power p and mode q, alone in a set
unfoldable pub single : ℕ → ℕ → ℕ → ℕ
single c p q = 2 ^ (c + 4 * p + 16 * q)

-- the outcomes of command k in state s; 0 also where s is over 63, which makes its mode over 3, or k is over 15
unfoldable pub rule_mask : ℕ → ℕ → ℕ
rule_mask s k =
    let c = channel s in
    let p = power s in
    let q = mode s in
    pick (leb k 3) (pick (eqb q 0) (single k p q) (pick (eqb q 1) (bit_or (single k p q) (single c p q)) 0))
    (pick (leb k 7) (pick (leb q 2) (single c (k - 4) q) 0)
    (pick (leb k 10) (pick (leb q 2) (single c p (k - 8)) 0)
    (pick (eqb k 11) (pick (leb q 2) (single c p 3) 0)
    (pick (eqb k 12) (pick (eqb q 3) (single c p 0) 0)
    (pick (eqb k 13) (pick (eqb q 0) (union (λ i. single i p q) 4) 0)
    (pick (eqb k 14) (pick (leb q 2) (pick (ltb p 3) (single c (p + 1) q) 0) 0)
    (pick (eqb k 15) (pick (leb q 2) (pick (ltb 0 p) (single c (p - 1) q) 0) 0)
    0)))))))
