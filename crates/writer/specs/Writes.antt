-- What writing answers (01, "Writing"; 02, request 5), for the reader. Assumes nothing: these are definitions.
use Rattle.std.specs.Prelude.{◌≡◌, List, [], ◌∷◌, ◌++◌, ℕ, ◌*◌, ◌<◌, ◌≤◌, length, get_or}
use Rattle.base.specs.Sets.{NoBitFrom}
use Rattle.base.specs.Lists.{Written}
use Rattle.base.specs.Sizes.{Sized, ◌for◌, LongEnough}
use Rattle.base.specs.Lowest.{LowestWrong}
use Rattle.reversal.specs.Device.{tabled}
use Rattle.reversal.specs.Weights.{AllowedWeight}
use Rattle.book.specs.Book.{Book, AllowedDevice, AllowedBook, bytes_of}
use Rattle.book.specs.Lent.{Lent, sizes, SlotAllowed, Holds}
use Rattle.writer.specs.declared.Writing.{Writing}

-- the lengths stated for table, slots and weights; "an output buffer of at least 31,110 bytes"; 02: "The largest book grows by 68 bytes, and with it
-- writer's buffer"
abbrev pub buffers : Lent → List ℕ → List Sized
buffers l out = sizes l ++ (length out for 31178) ∷ []

-- the command c may have its weight
abbrev pub WeightRight : List ℕ → ℕ → Type 0
WeightRight weights c = AllowedWeight (get_or weights c 0)

-- each of the m commands may
abbrev pub WeightsRight : ℕ → List ℕ → Type 0
WeightsRight m weights = (c : ℕ) → c < m → WeightRight weights c

-- the entry i has no bit at n or above
abbrev pub EntryRight : ℕ → List ℕ → ℕ → Type 0
EntryRight n table i = NoBitFrom n (get_or table i 0)

-- the slot i keeps an item's limits, and its unused command bytes are zero. "It doesn't judge items."
abbrev pub SlotRight : ℕ → ℕ → List ℕ → List ℕ → ℕ → Type 0
SlotRight n m table slots i = SlotAllowed (tabled n m table) slots i

-- "It refuses .. in this order": each case says that none before it holds. "Entries from n × m on and slots past the count are ignored."; 02,
-- of the weights: "ignores those past m"
pub data Refuses (n m items : ℕ) (l : Lent) (out : List ℕ) : ℕ → ℕ → Type 0 where
  -- "1": "a lent buffer shorter than stated"
  short : (LongEnough (buffers l out) → ⊥) → Refuses n m items l out 1 0
  -- "5 at place 0 for n or m"
  device : LongEnough (buffers l out) → (AllowedDevice n m → ⊥) → Refuses n m items l out 5 0
  -- "7 at place 0 for a count above 64"
  count : LongEnough (buffers l out) → AllowedDevice n m → 64 < items → Refuses n m items l out 7 0
  -- 02: "refuses a wrong weight with 5 at the lowest such command, straight after 7"
  weight : {c : ℕ} → LongEnough (buffers l out) → AllowedDevice n m → items ≤ 64 → LowestWrong (WeightRight l.weights) m c
      → Refuses n m items l out 5 c
  -- "5 at the lowest index of an entry with a bit at n or above"
  entry : {i : ℕ} → LongEnough (buffers l out) → AllowedDevice n m → items ≤ 64 → WeightsRight m l.weights
      → LowestWrong (EntryRight n l.table) (n * m) i → Refuses n m items l out 5 i
  -- "5 at the lowest slot whose fields break an item's limits or whose unused command bytes aren't zero"
  slot : {i : ℕ} → LongEnough (buffers l out) → AllowedDevice n m → items ≤ 64 → WeightsRight m l.weights
      → ((j : ℕ) → j < n * m → EntryRight n l.table j) → LowestWrong (SlotRight n m l.table l.slots) items i → Refuses n m items l out 5 i

-- "It refuses, output untouched, length 0"
abbrev pub refusal : ℕ → ℕ → Writing
refusal code place = record { code = code; place = place; length = 0 }

-- "0, 0 | done", with the book's length
abbrev pub written : ℕ → Writing
written size = record { code = 0; place = 0; length = size }

-- "it gives the book and its length. Bytes past it stay."
pub record BookWritten (book out : List ℕ) (r : Writing) (out' : List ℕ) : Type 0 where
  pub answer : r ≡ written (length book)
  pub bytes : Written book out out'

-- the result r and the output out' of writing: "Writing takes n, m, an item count, table, slots and an output buffer"; 02: "writing takes" the weights.
-- What it writes is the allowed book that they hold.
pub data Writes (n m items : ℕ) (l : Lent) (out : List ℕ) (r : Writing) (out' : List ℕ) : Type 0 where
  refused : {code place : ℕ} → Refuses n m items l out code place → r ≡ refusal code place → out' ≡ out
      → Writes n m items l out r out'
  done : LongEnough (buffers l out) → (b : Book) → AllowedBook b → Holds n m items l b → BookWritten (bytes_of b) out r out'
      → Writes n m items l out r out'
