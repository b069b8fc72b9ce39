-- The outcomes in a table: its entry, and none past its end. Assumes nothing.
use mathlib.Core.Path.{◌≡◌, sym, ap, ◌∙◌}
use Prim.Native.Nat.{ℕ, ◌+◌, ◌*◌, ◌%◌, ◌^◌}
use native.Mathlib.Omega.{arith}
use lib.ListN.{get_or}
use Rattle.states.proofs.Laws.{index-small, entry_here, entry-none}
use Rattle.states.proofs.device.TabledOutcomes.outcomes_at.Goals as goal

pub returns-then-command-self : goal.returns-then-command-self
returns-then-command-self c (below, few, small) =
    let (l, k) = index-small _ _ _ _ below few small c.if-command-self.true in
    let at : (c.args.state * c.args.self.now.m % 2 ^ 64 + c.args.command) % 2 ^ 64 ≡ c.args.state * c.args.self.now.m + c.args.command = omega (arith, l, k) in
    c.unwrap_or.ensures
    ∙ rw c.copied.ensures (c.get.ensures.lookup.4 (omega arith) 0)
    ∙ ap (λ (i : ℕ). get_or c.args.self.now.table.now i 0) at
    ∙ sym (entry_here _ _ c.args.self.now.table.now _ _ below c.if-command-self.true)

pub returns-else-command-self : goal.returns-else-command-self
returns-else-command-self c (below, few, small) = sym (entry-none _ _ c.args.self.now.table.now _ _ below c.if-command-self.false)
