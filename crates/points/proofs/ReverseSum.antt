-- The sum of the weights of an item's reverse commands, turn by turn. Assumes nothing.
use mathlib.Core.Path.{◌≡◌, sym, ap, ◌∙◌}
use mathlib.Core.List.{List}
use Prim.Native.Nat.{ℕ, ◌+◌, ◌*◌, ◌≤◌, ◌<◌}
use native.Mathlib.Numerals.{add-one}
use native.Mathlib.Omega.{arith}
use lib.ListN.{length, get_or, drop, drop_of_length-le}
use lib.Seq.{drop-cons}
use Rattle.reversal.specs.Weights.{sum_of}

-- x of the commands are summed up, each weight in two bytes; the rest gives the whole
pub record Summing (ws cs : List ℕ) (x sum : ℕ) : Type 0 where
  pub within : x ≤ length cs
  pub whole : sum + sum_of ws (drop x cs) ≡ sum_of ws cs
  pub low : sum ≤ 65535 * x

module _ (ws cs : List ℕ) where
  pub sum-start : Summing ws cs 0 0
  sum-start = record { within = omega arith; whole = omega arith; low = omega arith }

  pub sum-next : {x sum : ℕ} (c w : ℕ) → Summing ws cs x sum → x < length cs → c ≡ get_or cs x 0 → w ≡ get_or ws c 0 → w < 65536
      → Summing ws cs (x + 1) (sum + w)
  sum-next {x} {sum} c w g l p q b =
      let first : w ≡ get_or ws (get_or cs x 0) 0 = q ∙ ap (λ (y : ℕ). get_or ws y 0) p in
      let rest : sum_of ws (drop x cs) ≡ get_or ws (get_or cs x 0) 0 + sum_of ws (drop (x + 1) cs)
      = ap (sum_of ws) (drop-cons cs x 0 l) ∙ ap (λ (y : ℕ). get_or ws (get_or cs x 0) 0 + sum_of ws (drop y cs)) (sym (add-one x)) in
      record { within = omega arith; whole = omega (arith, first, rest, g.whole); low = omega (arith, g.low) }

  pub sum-all : {x sum : ℕ} → Summing ws cs x sum → length cs ≤ x → sum ≡ sum_of ws cs
  sum-all {x} g l = omega (arith, ap (sum_of ws) (drop_of_length-le cs l), g.whole)
