-- Q's 225 bytes read, and its device with weights, with literal numbers. Assumes nothing: these are definitions.
use Rattle.std.specs.Prelude.{◌≡◌, [], ◌∷◌, ℕ, ◌≤◌, get_or, take}
use Rattle.base.specs.Sizes.{LongEnough}
use Rattle.book.specs.Lent.{Lent, sizes}
use Rattle.book.specs.Example.{bytes_q, bytes_dear, first_slots}
use Rattle.reader.specs.declared.Reading.{Reading}
use Rattle.reader.specs.Reads.{Reads}

-- in buffers that are long enough: state 0 has the outcomes 6 at command 2, state 1 none; the first two slots, all 34 bytes of each
pub record QRead : Type 0 where
  pub result : {l : Lent} {r : Reading} {l' : Lent} → Reads bytes_q l r l' → LongEnough (sizes l)
      → r ≡ record { code = 0; place = 0; n = 3; m = 3; items = 5 }
  pub entries : {l : Lent} {r : Reading} {l' : Lent} → Reads bytes_q l r l' → LongEnough (sizes l)
      → (get_or l'.table 2 0 ≡ 6) × (get_or l'.table 5 0 ≡ 0)
  pub slots_at_first : {l : Lent} {r : Reading} {l' : Lent} → Reads bytes_q l r l' → LongEnough (sizes l) → take 68 l'.slots ≡ first_slots
  -- 02: "Without it every weight is 1"; with it 300, 2 and 1; "those past m untouched"
  pub plain_weights : {l : Lent} {r : Reading} {l' : Lent} → Reads bytes_q l r l' → LongEnough (sizes l) → take 3 l'.weights ≡ 1 ∷ 1 ∷ 1 ∷ []
  pub dear_weights : {l : Lent} {r : Reading} {l' : Lent} → Reads bytes_dear l r l' → LongEnough (sizes l) → take 3 l'.weights ≡ 300 ∷ 2 ∷ 1 ∷ []
  pub plain_past_m : {l : Lent} {r : Reading} {l' : Lent} → Reads bytes_q l r l' → LongEnough (sizes l)
      → (i : ℕ) → 3 ≤ i → get_or l'.weights i 0 ≡ get_or l.weights i 0
  pub dear_past_m : {l : Lent} {r : Reading} {l' : Lent} → Reads bytes_dear l r l' → LongEnough (sizes l)
      → (i : ℕ) → 3 ≤ i → get_or l'.weights i 0 ≡ get_or l.weights i 0
