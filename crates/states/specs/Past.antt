-- What is no state has no outcomes, in a table and in the moves of a book. Assumes nothing.
use Rattle.std.specs.Prelude.{◌≡◌, List, Bool, ℕ, ◌+◌, ◌*◌, ◌≤◌, ltb, get_or}
use Rattle.std.proofs.Common.{ap}
use borrow.Author.Tests.{le-ltb}
use Rattle.base.specs.Tests.{pick, both}
use Rattle.reversal.specs.Device.{entry}
use Rattle.moves.specs.Moves.{moved_to, indexed}

pub entry_out : (n m : ℕ) (table : List ℕ) (s c : ℕ) → n ≤ s → entry n m table s c ≡ 0
unfolding entry pick both
entry_out n m table s c h = ap (λ (b : Bool). pick (both b (ltb c m)) (get_or table (s * m + c) 0) 0) (le-ltb s n h)

pub indexed_out : (book : List ℕ) (n m : ℕ) (index : List ℕ) (s c : ℕ) → n ≤ s → indexed book n m index s c ≡ 0
unfolding indexed pick both
indexed_out book n m index s c h = ap (λ (b : Bool). pick (both b (ltb c m)) (moved_to book (get_or index s 0) c) 0) (le-ltb s n h)
