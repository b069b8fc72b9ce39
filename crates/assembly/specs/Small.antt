-- Assembling with little memory left (02, request 7), for the reader. Assumes nothing: these are definitions.
use Rattle.std.specs.Prelude.{◌≡◌, List, [], ◌∷◌, ◌++◌, ℕ, ◌<◌, ◌≤◌, length, drop}
use Rattle.base.specs.Sizes.{Sized, ◌for◌, LongEnough}
use Rattle.book.specs.Lent.{Lent, sizes}
use Rattle.assembly.specs.Asked.{Asked}
use Rattle.assembly.specs.declared.Assembly.{Assembly}
use Rattle.assembly.specs.Lent.{in_bytes, Room, AllLent, room_sizes}
use Rattle.assembly.specs.Assembles.{refusal, Assembles}
use Rattle.assembly.specs.Demand.{Demand}

-- "a scratch of 64 masks in place of the table, slots and weights": the lengths stated
abbrev pub small_sizes : List ℕ → Room ℕ → List Sized
small_sizes scratch room = room_sizes in_bytes room ++ (length scratch for 64) ∷ []

-- what the first form is lent: table, slots and weights, with plan and legs lent alike
abbrev pub beside : Room ℕ → Lent → AllLent ℕ
beside room l = record { read = l; room = room }

-- of a book, a run, the scratch, and plan and legs at entry; the result, the scratch, and plan and legs at exit
pub data AssemblesSmall (ask : Asked) (scratch : List ℕ) (room : Room ℕ) (result : Assembly) (scratch' : List ℕ) (room' : Room ℕ) : Type 0 where
  -- 01: "1, 0: a lent buffer shorter than stated; all untouched"; 02: "untouched on 1"
  short : (LongEnough (small_sizes scratch room) → ⊥) → result ≡ refusal 1 0 → scratch' ≡ scratch → room' ≡ room
      → AssemblesSmall ask scratch room result scratch' room'
  -- 02: "With buffers of the stated lengths, plan and legs lent alike, result, plan and legs equal the first form's for every book and run; the scratch
  -- ends free": its 64 masks, and what lies past them stays
  as_first : LongEnough (small_sizes scratch room) → drop 64 scratch' ≡ drop 64 scratch
      → ((l : Lent) → LongEnough (sizes l) → (l' : Lent) × Assembles in_bytes ask (beside room l) result (beside room' l'))
      → AssemblesSmall ask scratch room result scratch' room'

-- demand 3 of this call: that of the first form; a short scratch is a refusal that goes before "no chain"
pub record SmallDemand (ask : Asked) (scratch : List ℕ) (room : Room ℕ) (result : Assembly) (scratch' : List ℕ) (room' : Room ℕ) : Type 0 where
  pub as_first : 64 ≤ length scratch → (l : Lent) → LongEnough (sizes l) → (l' : Lent) × Demand in_bytes ask (beside room l) result (beside room' l')
  pub short_scratch : length scratch < 64 → result.code ≡ 1
