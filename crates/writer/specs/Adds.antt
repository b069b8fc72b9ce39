-- What a record adds to the bytes in a lent output. Assumes nothing: these are definitions.
use Rattle.std.specs.Prelude.{◌≡◌, List, ℕ, ◌+◌, length}
use Rattle.std.proofs.lemmas.List.Edits.{sets}
use Rattle.writer.specs.declared.records.Output.{Output}

-- the output `old` with a part at its end is `new`, in the same row
pub record Adds (old : Output) (part : List ℕ) (new : Output) : Type 0 where
  pub same_row : new.out.ghost_name ≡ old.out.ghost_name
  pub row : new.out.now ≡ sets old.out.now old.end part
  pub end : new.end ≡ old.end + length part
