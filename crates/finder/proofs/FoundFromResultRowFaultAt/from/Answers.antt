-- `from` meets its contract. Assumes nothing.
use mathlib.Core.Path.{sym, ap, ◌∙◌}
use mathlib.Core.List.{List, [], ◌∷◌}
use Prim.Native.Nat.{ℕ}
use Rattle.std.proofs.Common.{slice_index_or}
use Rattle.finder.specs.declared.Found.{Found}
use Rattle.finder.specs.Searching.{found_by}
use Rattle.finder.proofs.Kept.{answer-is}
use Rattle.finder.proofs.FoundFromResultRowFaultAt.from.Goals as goal

-- the answer with the first three of these bytes
with_bytes : ℕ → List ℕ → Found
with_bytes count bytes = record { code = 0; place = 0; count = count; commands = slice_index_or bytes 0 0 ∷ slice_index_or bytes 1 0 ∷ slice_index_or bytes 2 0 ∷ [] }

pub returns-in-Ok : goal.returns-in-Ok
unfolding with_bytes
returns-in-Ok c =
    let row = c.in-Ok.field-0 in
    ap (with_bytes row.count) c.to_le_bytes.ensures ∙ answer-is row.count row.number ∙ ap found_by (sym c.in-Ok.is)
