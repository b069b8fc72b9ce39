-- 01 and 02 leave one answer. Assumes nothing.
use mathlib.Core.Path.{◌≡◌, sym, ap, ap₂, ◌∙◌}
use mathlib.Core.List.{List}
use Prim.Native.Nat.{ℕ}
use Rattle.reversal.specs.Device.{Device}
use Rattle.reversal.specs.Reversal.{Item}
use Rattle.reversal.specs.Runs.{Run, last}
use Rattle.reversal.specs.Answers.{Answer, refused, assembled, Answers, no-history, no_chain, done}
use Rattle.reversal.proofs.Assembling.{best_unique, numbers_unique}

module _ (d : Device) (ws : List ℕ) (items : List Item) (r : Run) where
  pub answers_unique : (a b : Answer) → Answers d ws items r a → Answers d ws items r b → a ≡ b
  answers_unique a b (no-history f e) (no-history f' e') = e ∙ sym e'
  answers_unique a b (no-history f e) (no_chain h u f' ns n e') = absurd (f h u)
  answers_unique a b (no-history f e) (done h u xs p ns n e') = absurd (f h u)
  answers_unique a b (no_chain h u f ns n e) (no-history f' e') = absurd (f' h u)
  answers_unique a b (no_chain h u f ns n e) (no_chain h' u' f' ns' n' e') = e ∙ ap (λ (l : List ℕ). refused 11 l) (numbers_unique d ws items r ns ns' n n') ∙ sym e'
  answers_unique a b (no_chain h u f ns n e) (done h' u' xs p ns' n' e') = absurd (f xs p.chain)
  answers_unique a b (done h u xs p ns n e) (no-history f' e') = absurd (f' h u)
  answers_unique a b (done h u xs p ns n e) (no_chain h' u' f' ns' n' e') = absurd (f' xs p.chain)
  answers_unique a b (done h u xs p ns n e) (done h' u' xs' p' ns' n' e') =
      e ∙ ap₂ (assembled ws items (last r)) (best_unique d ws items r xs xs' p p') (numbers_unique d ws items r ns ns' n n') ∙ sym e'
