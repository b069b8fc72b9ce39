-- Reverses found in Q's book and in that of a ring of eight states, with literal numbers: the shortest and the lowest; none; each refusal; the table
-- that is read. Assumes nothing: these are definitions.
use Rattle.std.specs.Prelude.{◌≡◌, List, [], ◌∷◌, ◌++◌, ℕ, ◌≤◌, length, get_or, take, drop}
use Rattle.reversal.specs.Twelve.{item_q3, item_q4}
use Rattle.book.specs.Example.{bytes_q}
use Rattle.checker.specs.Cases.{recorded}
use Rattle.finder.specs.declared.Found.{Found}
use Rattle.finder.specs.Finds.{Sought, sought, Finds}

-- code, place, count, commands
abbrev pub reply : ℕ → ℕ → ℕ → List ℕ → Found
reply code place count commands = record { code = code; place = place; count = count; commands = commands }

-- with a table that is long enough: the answer, and an entry of the table
pub record Gives (book : List ℕ) (q : Sought) (answer : Found) (entry mask : ℕ) : Type 0 where
  pub result : {table : List ℕ} {r : Found} {table' : List ℕ} → Finds book q table r table' → 2048 ≤ length table
      → (r ≡ answer) × (get_or table' entry 0 ≡ mask)

-- and where nothing is read
pub record Keeps (book : List ℕ) (q : Sought) (answer : Found) : Type 0 where
  pub result : {table : List ℕ} {r : Found} {table' : List ℕ} → Finds book q table r table' → 2048 ≤ length table → (r ≡ answer) × (table' ≡ table)

-- n 8, m 2; command 0 leads from s to s + 1, command 1 to s + 2, both mod 8; no item
abbrev pub bytes_ring : List ℕ
bytes_ring =
    2 ∷ 0 ∷ 1 ∷ 0 ∷ 8 ∷ 2
    ∷ 10 ∷ 0 ∷ 2 ∷ 0 ∷ 0 ∷ 0 ∷ 2 ∷ 0 ∷ 0 ∷ 0 ∷ 0 ∷ 0 ∷ 0 ∷ 0
    ∷ 10 ∷ 0 ∷ 2 ∷ 0 ∷ 0 ∷ 1 ∷ 4 ∷ 0 ∷ 0 ∷ 0 ∷ 0 ∷ 0 ∷ 0 ∷ 0
    ∷ 10 ∷ 0 ∷ 2 ∷ 0 ∷ 1 ∷ 0 ∷ 4 ∷ 0 ∷ 0 ∷ 0 ∷ 0 ∷ 0 ∷ 0 ∷ 0
    ∷ 10 ∷ 0 ∷ 2 ∷ 0 ∷ 1 ∷ 1 ∷ 8 ∷ 0 ∷ 0 ∷ 0 ∷ 0 ∷ 0 ∷ 0 ∷ 0
    ∷ 10 ∷ 0 ∷ 2 ∷ 0 ∷ 2 ∷ 0 ∷ 8 ∷ 0 ∷ 0 ∷ 0 ∷ 0 ∷ 0 ∷ 0 ∷ 0
    ∷ 10 ∷ 0 ∷ 2 ∷ 0 ∷ 2 ∷ 1 ∷ 16 ∷ 0 ∷ 0 ∷ 0 ∷ 0 ∷ 0 ∷ 0 ∷ 0
    ∷ 10 ∷ 0 ∷ 2 ∷ 0 ∷ 3 ∷ 0 ∷ 16 ∷ 0 ∷ 0 ∷ 0 ∷ 0 ∷ 0 ∷ 0 ∷ 0
    ∷ 10 ∷ 0 ∷ 2 ∷ 0 ∷ 3 ∷ 1 ∷ 32 ∷ 0 ∷ 0 ∷ 0 ∷ 0 ∷ 0 ∷ 0 ∷ 0
    ∷ 10 ∷ 0 ∷ 2 ∷ 0 ∷ 4 ∷ 0 ∷ 32 ∷ 0 ∷ 0 ∷ 0 ∷ 0 ∷ 0 ∷ 0 ∷ 0
    ∷ 10 ∷ 0 ∷ 2 ∷ 0 ∷ 4 ∷ 1 ∷ 64 ∷ 0 ∷ 0 ∷ 0 ∷ 0 ∷ 0 ∷ 0 ∷ 0
    ∷ 10 ∷ 0 ∷ 2 ∷ 0 ∷ 5 ∷ 0 ∷ 64 ∷ 0 ∷ 0 ∷ 0 ∷ 0 ∷ 0 ∷ 0 ∷ 0
    ∷ 10 ∷ 0 ∷ 2 ∷ 0 ∷ 5 ∷ 1 ∷ 128 ∷ 0 ∷ 0 ∷ 0 ∷ 0 ∷ 0 ∷ 0 ∷ 0
    ∷ 10 ∷ 0 ∷ 2 ∷ 0 ∷ 6 ∷ 0 ∷ 128 ∷ 0 ∷ 0 ∷ 0 ∷ 0 ∷ 0 ∷ 0 ∷ 0
    ∷ 10 ∷ 0 ∷ 2 ∷ 0 ∷ 6 ∷ 1 ∷ 1 ∷ 0 ∷ 0 ∷ 0 ∷ 0 ∷ 0 ∷ 0 ∷ 0
    ∷ 10 ∷ 0 ∷ 2 ∷ 0 ∷ 7 ∷ 0 ∷ 1 ∷ 0 ∷ 0 ∷ 0 ∷ 0 ∷ 0 ∷ 0 ∷ 0
    ∷ 10 ∷ 0 ∷ 2 ∷ 0 ∷ 7 ∷ 1 ∷ 2 ∷ 0 ∷ 0 ∷ 0 ∷ 0 ∷ 0 ∷ 0 ∷ 0
    ∷ []

-- the same with the weights 1 and 1,000 (232, 3)
abbrev pub bytes_heavy : List ℕ
bytes_heavy = take 6 bytes_ring ++ 4 ∷ 0 ∷ 5 ∷ 0 ∷ 1 ∷ 0 ∷ 232 ∷ 3 ∷ drop 6 bytes_ring

pub record RingFound : Type 0 where
  pub size : length bytes_ring ≡ 230
  pub heavy_size : length bytes_heavy ≡ 238
  -- "of at most 3 commands": seven steps back take four, 0 1 1 1. The table is read, "on 14 and 15 too": entry 13 is that of state 6, command 1
  pub seven : Gives bytes_ring (sought (0 ∷ []) 255 255) (reply 15 0 0 (0 ∷ 0 ∷ 0 ∷ [])) 13 1
  pub six : Gives bytes_ring (sought (1 ∷ []) 255 255) (reply 0 0 3 (1 ∷ 1 ∷ 1 ∷ [])) 13 1
  -- "among equals the one with lower commands first": 1 0 1 and 1 1 0 are as short
  pub five : Gives bytes_ring (sought (0 ∷ 1 ∷ []) 255 255) (reply 0 0 3 (0 ∷ 1 ∷ 1 ∷ [])) 13 1
  -- 1 0 is as short; "commands unused in the answer are 0"
  pub three : Gives bytes_ring (sought (0 ∷ 1 ∷ 1 ∷ []) 255 255) (reply 0 0 2 (0 ∷ 1 ∷ 0 ∷ [])) 13 1
  -- "the shortest": 0 0 is lower and longer
  pub two : Gives bytes_ring (sought (1 ∷ 1 ∷ 1 ∷ []) 255 255) (reply 0 0 1 (1 ∷ 0 ∷ 0 ∷ [])) 13 1
  -- by number, also where 0 0 takes less air time
  pub heavy : Gives bytes_heavy (sought (1 ∷ 1 ∷ 1 ∷ []) 255 255) (reply 0 0 1 (1 ∷ 0 ∷ 0 ∷ [])) 13 1
  -- the reverse of no command
  pub none : Gives bytes_ring (sought (1 ∷ 1 ∷ 1 ∷ 1 ∷ []) 255 255) (reply 0 0 0 (0 ∷ 0 ∷ 0 ∷ [])) 13 1

pub record QFound : Type 0 where
  -- one command, 0: the count tells it from none. Entry 2 is that of state 0, command 2: outcomes 1 and 2
  pub one : Gives bytes_q (sought (2 ∷ []) 7 7) (reply 0 0 1 (0 ∷ 0 ∷ 0 ∷ [])) 2 6
  -- two starts, 0 and 1, with one end: no reverse brings both back
  pub two_starts : Gives bytes_q (sought (1 ∷ []) 7 3) (reply 15 0 0 (0 ∷ 0 ∷ 0 ∷ [])) 2 6
  -- not effective: command 2 can't follow itself; psi is empty; phi is empty
  pub never_used : Gives bytes_q (sought (2 ∷ 2 ∷ []) 7 7) (reply 15 0 0 (0 ∷ 0 ∷ 0 ∷ [])) 2 6
  pub no_psi : Gives bytes_q (sought (2 ∷ []) 7 0) (reply 15 0 0 (0 ∷ 0 ∷ 0 ∷ [])) 2 6
  pub no_phi : Gives bytes_q (sought (2 ∷ []) 0 7) (reply 15 0 0 (0 ∷ 0 ∷ 0 ∷ [])) 2 6
  -- "14, 0, forward commands or masks that no item may hold": a bit of phi or psi at n, no command, nine, a command that is none of the device's
  pub phi_out : Gives bytes_q (sought (2 ∷ []) 8 7) (reply 14 0 0 (0 ∷ 0 ∷ 0 ∷ [])) 2 6
  pub psi_out : Gives bytes_q (sought (2 ∷ []) 7 8) (reply 14 0 0 (0 ∷ 0 ∷ 0 ∷ [])) 2 6
  pub no_command : Gives bytes_q (sought [] 7 7) (reply 14 0 0 (0 ∷ 0 ∷ 0 ∷ [])) 2 6
  pub nine : Gives bytes_q (sought (2 ∷ 2 ∷ 2 ∷ 2 ∷ 2 ∷ 2 ∷ 2 ∷ 2 ∷ 2 ∷ []) 7 7) (reply 14 0 0 (0 ∷ 0 ∷ 0 ∷ [])) 2 6
  pub command_out : Gives bytes_q (sought (3 ∷ []) 7 7) (reply 14 0 0 (0 ∷ 0 ∷ 0 ∷ [])) 2 6
  -- eight may be held
  pub eight : Gives bytes_q (sought (2 ∷ 2 ∷ 2 ∷ 2 ∷ 2 ∷ 2 ∷ 2 ∷ 2 ∷ []) 7 7) (reply 15 0 0 (0 ∷ 0 ∷ 0 ∷ [])) 2 6
  -- "after the book's own codes, 8 and 12 too": with the item of Q3 behind Q's items, where 14 would be due
  pub item_wrong : Gives (bytes_q ++ recorded item_q3) (sought (3 ∷ []) 8 7) (reply 8 225 0 (0 ∷ 0 ∷ 0 ∷ [])) 2 6
  -- and with the item of Q4, where 15 would be due
  pub item_never_used : Gives (bytes_q ++ recorded item_q4) (sought (2 ∷ []) 0 7) (reply 12 225 0 (0 ∷ 0 ∷ 0 ∷ [])) 2 6
  -- Q without its last byte: its last item's record stands at 201
  pub cut : Keeps (take 224 bytes_q) (sought (2 ∷ []) 7 7) (reply 2 201 0 (0 ∷ 0 ∷ 0 ∷ []))
  -- a table of 2,047 entries, whatever the book is and whatever is sought
  pub short : {book : List ℕ} {q : Sought} {table : List ℕ} {r : Found} {table' : List ℕ} → Finds book q table r table' → length table ≡ 2047
      → (r ≡ reply 1 0 0 (0 ∷ 0 ∷ 0 ∷ [])) × (table' ≡ table)
