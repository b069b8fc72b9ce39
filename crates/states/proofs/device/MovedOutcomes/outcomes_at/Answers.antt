-- The outcomes by the index of a book's moves: none past its end, where a row reads as 0, which has no command. Assumes nothing.
use mathlib.Core.Path.{sym, ap, ◌∙◌}
use Prim.Native.Nat.{ℕ}
use native.Mathlib.Omega.{arith}
use Rattle.moves.specs.Moves.{moved_to}
use Rattle.states.proofs.Laws.{indexed-here, indexed-none}
use Rattle.states.proofs.device.MovedOutcomes.outcomes_at.Goals as goal

pub returns-then-command-self : goal.returns-then-command-self
returns-then-command-self c (below, few, small) =
    c.outcomes.ensures
    ∙ ap (λ (row : ℕ). moved_to c.args.self.now.book.now row c.args.command) (c.unwrap_or-row.ensures ∙ rw c.copied.ensures (c.get.ensures.lookup.4 (omega arith) 0))
    ∙ sym (indexed-here c.args.self.now.book.now c.args.self.now.index.now _ _ _ _ below c.if-command-self.true)

pub returns-else-command-self : goal.returns-else-command-self
returns-else-command-self c (below, few, small) = sym (indexed-none c.args.self.now.book.now c.args.self.now.index.now _ _ _ _ below c.if-command-self.false)
