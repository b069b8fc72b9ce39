-- `lowest_row` meets its contract. Assumes nothing.
use mathlib.Core.Path.{◌≡◌, sym, ap, ◌∙◌}
use mathlib.Core.Bool.{Bool}
use mathlib.Core.List.{List}
use Prim.Native.Nat.{ℕ, ◌+◌, ◌*◌, ◌^◌, ◌≤◌, ◌<◌}
use native.Mathlib.Omega.{arith}
use lib.Count.{count_trailing_zeros}
use Rattle.std.specs.Prelude.{Some, None}
use Rattle.octets.specs.Le.{bytes_le}
use Rattle.reversal.specs.Device.{Device}
use Rattle.finder.specs.Contract.{Passing, all_back, lowest_row}
use Rattle.finder.specs.Searching.{lent}
use Rattle.finder.proofs.Trying.{try_first, try_next, try_found, try_none, row_passes, row_fails, with_one}
use Rattle.finder.proofs.Passes.{passing_same}
use Rattle.finder.proofs.Last.{last-command, last_none, last-low, last_found, whole_back}
use Rattle.finder.proofs.Search.+lowest_row.Goals as goal

-- the test of a row
abbrev rows : Device → List ℕ → ℕ → ℕ → ℕ → Bool
rows d ends used count number = all_back d ends used (bytes_le count number)

-- one command is left, and w has the last commands that pass: there is none, or the lowest of them makes the row
record LastRow (d : Device) (ends : List ℕ) (used count left number w : ℕ) : Type 0 where
  pub none : w ≡ 0 → None ≡ lowest_row (rows d ends used (count + left)) d.m left (256 ^ count) number
  pub command : (w ≡ 0 → ⊥) → count_trailing_zeros 64 w < 32
  pub found : (w ≡ 0 → ⊥) → Some (number + count_trailing_zeros 64 w * 256 ^ count) ≡ lowest_row (rows d ends used (count + left)) d.m left (256 ^ count) number

last_row : (d : Device) (ends : List ℕ) (used count left number w : ℕ) → d.m ≤ 32 → left ≡ 1 → number < 256 ^ count
    → Passing d.m (whole_back d ends (bytes_le count number) used) w → LastRow d ends used count left number w
last_row d ends used count left number w few one h p =
    let test = rows d ends used (count + left) in
    let q : Passing d.m (λ b. rows d ends used (count + left) (number + b * 256 ^ count)) w
    = passing_same p (λ b l. ap (all_back d ends used) (last-command count left number b one h (omega (arith, l, few)))) in
    record {
      none = last_none test d.m left (256 ^ count) number one w q;
      command = λ some. omega (arith, few, last-low test d.m left (256 ^ count) number one w q some few);
      found = λ some. last_found test d.m left (256 ^ count) number one w q some few;
    }

pub returns-then-comes_back : goal.returns-then-comes_back
returns-then-comes_back t c =
    let same : c.args.row.count + c.args.left ≡ c.args.row.count = omega (arith, c.if-left-eq0.true) in
    row_passes _ _ _ _ _ c.if-left-eq0.true (rw same (sym c.comes_back.ensures ∙ c.if-comes_back.true))

pub returns-else-comes_back : goal.returns-else-comes_back
returns-else-comes_back t c =
    let same : c.args.row.count + c.args.left ≡ c.args.row.count = omega (arith, c.if-left-eq0.true) in
    row_fails _ _ _ _ _ c.if-left-eq0.true (rw same (sym c.comes_back.ensures ∙ c.if-comes_back.false))

pub returns-then-last-eq0 : goal.returns-then-last-eq0
returns-then-last-eq0 t c =
    let it = c.args.self.now.within in
    (last_row (lent it) _ _ _ _ _ _ it.commands c.if-left-eq1.true c.requires.below c.last_commands-last.ensures).none c.if-last-eq0.true

pub with-requires-clause-byte : goal.with-requires-clause-byte
with-requires-clause-byte t c =
    let it = c.args.self.now.within in
    (last_row (lent it) _ _ _ _ _ _ it.commands c.if-left-eq1.true c.requires.below c.last_commands-last.ensures).command c.if-last-eq0.false

pub returns-then-left-eq1 : goal.returns-then-left-eq1
returns-then-left-eq1 t c =
    let it = c.args.self.now.within in
    ap Some c.with.ensures.number
    ∙ (last_row (lent it) _ _ _ _ _ _ it.commands c.if-left-eq1.true c.requires.below c.last_commands-last.ensures).found c.if-last-eq0.false

pub loop-c-init : goal.loop-c-init
loop-c-init t c = try_first _ _ _ _ _ c.if-left-eq0.false

pub returns-in-Some : goal.returns-in-Some
returns-in-Some t c =
    let s = c.args.self.now in
    let d = lent s.within in
    let row = c.with-in-loop-c.ensures in
    try_found _ _ _ _ _ _ c.loop-c-test.true c.loop-c.invariant _
    (sym c.in-Some.is ∙ c.lowest_row.ensures ∙ with_one (rows d s.ends.now s.used.mask) d.m _ _ _ _ _ _ c.if-left-eq0.false row.count row.number)

pub loop-c-preserved : goal.loop-c-preserved
loop-c-preserved t c =
    let s = c.args.self.now in
    let d = lent s.within in
    let row = c.with-in-loop-c.ensures in
    try_next _ _ _ _ _ _ c.loop-c-test.true c.loop-c.invariant
    (sym c.in_default.is ∙ c.lowest_row.ensures ∙ with_one (rows d s.ends.now s.used.mask) d.m _ _ _ _ _ _ c.if-left-eq0.false row.count row.number)

pub returns : goal.returns
returns t c = try_none _ _ _ _ _ _ (omega arith) c.loop-c.invariant
