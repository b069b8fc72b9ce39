-- Assembling at both sides of the lengths stated for its buffers and each of its codes with the whole answer, for either form of the legs and with a
-- scratch; a book with 2 states and 3 commands; the cases that the twelve can't tell, and the longest plan, as bytes. With literal numbers.
-- Assumes nothing: these are definitions.
use Rattle.std.specs.Prelude.{◌≡◌, List, [], ◌∷◌, ◌++◌, ℕ, length, take, replicate}
use Rattle.base.specs.Lists.{Written}
use Rattle.reversal.specs.Runs.{Run}
use Rattle.reversal.specs.Twelve.{item_q3, item_q4, run, leg}
use Rattle.reversal.specs.Slips.{one_stuck, run_phi, run_psi, run_tie}
use Rattle.reversal.specs.Longest.{run_long, legs_long, sums_long}
use Rattle.book.specs.Book.{bytes_of}
use Rattle.book.specs.Example.{move, bytes_q, many, with_move, after_device}
use Rattle.book.specs.Further.{bytes_p, bytes_phi, bytes_psi, bytes_tie, bytes_long}
use Rattle.reader.specs.Edges.{Stated, OneShorter, UnevenRead}
use Rattle.checker.specs.Cases.{recorded}
use Rattle.runs.specs.RunBytes.{run_bytes}
use Rattle.assembly.specs.Asked.{asked}
use Rattle.assembly.specs.declared.Assembly.{Assembly}
use Rattle.assembly.specs.Lent.{LegForm, in_bytes, Room, AllLent}
use Rattle.assembly.specs.Assembles.{Assembles}
use Rattle.assembly.specs.Small.{AssemblesSmall}

-- 4,294,967,295, k times
abbrev pub nones : ℕ → List ℕ
nones k = replicate k 4294967295

-- "a plan buffer (256 bytes) and 32 legs": of exactly the stated lengths; the legs have 96 bytes, or 32 structs
pub record RoomStated {E : Type 0} (elements : ℕ) (room : Room E) : Type 0 where
  pub plan : length room.plan ≡ 256
  pub legs : length room.legs ≡ elements

pub record AllStated {E : Type 0} (elements : ℕ) (l : AllLent E) : Type 0 where
  pub read : Stated l.read
  pub room : RoomStated elements l.room

-- one of them is one shorter; of the legs `fewer` elements are left
pub data RoomShorter {E : Type 0} (fewer : ℕ) (room : Room E) : Type 0 where
  plan_255 : length room.plan ≡ 255 → RoomShorter fewer room
  legs_fewer : length room.legs ≡ fewer → RoomShorter fewer room

pub data AnyShorter {E : Type 0} (fewer : ℕ) (l : AllLent E) : Type 0 where
  to_read : OneShorter l.read → AnyShorter fewer l
  to_write : RoomShorter fewer l.room → AnyShorter fewer l

-- in buffers of exactly the stated lengths, with this book and run: the answer; the plan and the legs written, and all others kept
pub record Gives {E : Type 0} (form : LegForm E) (elements : ℕ) (book : List ℕ) (u : Run) (answer : Assembly) (plan : List ℕ) (legs : List E) : Type 0 where
  pub result : {l : AllLent E} {r : Assembly} {l' : AllLent E} → Assembles form (asked book (run_bytes u)) l r l' → AllStated elements l
      → (r ≡ answer) × Written plan l.room.plan l'.room.plan × Written legs l.room.legs l'.room.legs

-- refused, plan and legs untouched
pub record Keeps {E : Type 0} (form : LegForm E) (elements : ℕ) (book run : List ℕ) (answer : Assembly) : Type 0 where
  pub result : {l : AllLent E} {r : Assembly} {l' : AllLent E} → Assembles form (asked book run) l r l' → AllStated elements l
      → (r ≡ answer) × (l'.room ≡ l.room)

-- refused, all untouched
pub record KeepsAll {E : Type 0} (form : LegForm E) (elements : ℕ) (book run : List ℕ) (answer : Assembly) : Type 0 where
  pub result : {l : AllLent E} {r : Assembly} {l' : AllLent E} → Assembles form (asked book run) l r l' → AllStated elements l → (r ≡ answer) × (l' ≡ l)

-- for legs of so many elements, and one fewer
pub record Edges {E : Type 0} (form : LegForm E) (elements fewer : ℕ) : Type 0 where
  -- "0, 0: done": Q5, Q8 and Q11
  pub q5 : Gives form elements bytes_q (run (2 ∷ 1 ∷ []) (7 ∷ 7 ∷ 7 ∷ []))
      (record { code = 0; place = 0; commands = 1; legs = 1; sum = 1; fewest = 0 ∷ 1 ∷ 1 ∷ nones 30 }) (0 ∷ []) (form.held (leg 2 2 0 ∷ []))
  pub q8 : Gives form elements bytes_q (run (1 ∷ 1 ∷ []) (1 ∷ 7 ∷ 7 ∷ []))
      (record { code = 0; place = 0; commands = 1; legs = 2; sum = 1; fewest = 0 ∷ 1 ∷ 1 ∷ nones 30 }) (0 ∷ []) (form.held (leg 3 2 1 ∷ leg 1 1 0 ∷ []))
  pub q11 : Gives form elements bytes_q (run [] (7 ∷ []))
      (record { code = 0; place = 0; commands = 0; legs = 0; sum = 0; fewest = 0 ∷ nones 32 }) [] (form.held [])
  -- n 2, m 3: command 0 costs 1,000; eight commands undone by one item of 8 and 8
  pub uneven : Gives form elements bytes_p (run (1 ∷ []) (1 ∷ 3 ∷ []))
      (record { code = 0; place = 0; commands = 1; legs = 1; sum = 1000; fewest = 0 ∷ 1000 ∷ nones 31 }) (0 ∷ []) (form.held (leg 0 1 0 ∷ []))
  pub uneven_8 : Gives form elements bytes_p (run (replicate 8 1) (1 ∷ replicate 8 3))
      (record { code = 0; place = 0; commands = 8; legs = 1; sum = 1007; fewest = 0 ∷ 1000 ∷ nones 6 ++ 1007 ∷ nones 24 })
      (1 ∷ 1 ∷ 1 ∷ 1 ∷ 1 ∷ 1 ∷ 1 ∷ 0 ∷ []) (form.held (leg 1 8 0 ∷ []))
  -- the cases that the twelve can't tell
  pub phi : Gives form elements bytes_phi run_phi
      (record { code = 0; place = 0; commands = 1; legs = 1; sum = 1; fewest = 0 ∷ 1 ∷ nones 31 }) (0 ∷ []) (form.held (leg 0 1 0 ∷ []))
  pub psi : Gives form elements bytes_psi run_psi
      (record { code = 0; place = 0; commands = 1; legs = 1; sum = 1; fewest = 0 ∷ 1 ∷ nones 31 }) (0 ∷ []) (form.held (leg 0 1 0 ∷ []))
  pub tie : Gives form elements bytes_tie run_tie
      (record { code = 0; place = 0; commands = 1; legs = 2; sum = 1; fewest = 0 ∷ 1 ∷ 1 ∷ nones 30 }) (0 ∷ []) (form.held (leg 0 2 1 ∷ leg 1 1 0 ∷ []))
  -- 32 commands in the run, 256 in the plan, 32 legs: plan and legs are full
  pub long : Gives form elements bytes_long run_long
      (record { code = 0; place = 0; commands = 256; legs = 32; sum = 256000; fewest = sums_long }) (replicate 256 1) (form.held legs_long)
  -- "10, 0: no history": Q10 and Q12
  pub q10 : Gives form elements bytes_q (run (2 ∷ 2 ∷ []) (7 ∷ 7 ∷ 7 ∷ []))
      (record { code = 10; place = 0; commands = 0; legs = 0; sum = 0; fewest = nones 33 }) [] (form.held [])
  pub q12 : Gives form elements bytes_q (run [] (0 ∷ []))
      (record { code = 10; place = 0; commands = 0; legs = 0; sum = 0; fewest = nones 33 }) [] (form.held [])
  -- "11, 0: no chain from i": Q9
  pub q9 : Gives form elements bytes_q (run (1 ∷ []) (7 ∷ 7 ∷ []))
      (record { code = 11; place = 0; commands = 0; legs = 0; sum = 0; fewest = 0 ∷ nones 32 }) [] (form.held [])
  -- "9, 0": no bytes; 33 commands; a byte after the longest run; a command outside m, and a mask outside n, of 2 states and 3 commands
  pub nine : Keeps form elements bytes_q [] (record { code = 9; place = 0; commands = 0; legs = 0; sum = 0; fewest = nones 33 })
  pub nine_33 : Keeps form elements bytes_q (run_bytes (run (replicate 33 1) (replicate 34 2)))
      (record { code = 9; place = 0; commands = 0; legs = 0; sum = 0; fewest = nones 33 })
  pub nine_302 : Keeps form elements bytes_long (run_bytes run_long ++ 0 ∷ [])
      (record { code = 9; place = 0; commands = 0; legs = 0; sum = 0; fewest = nones 33 })
  pub nine_command : Keeps form elements bytes_p (run_bytes (run (3 ∷ []) (3 ∷ 3 ∷ [])))
      (record { code = 9; place = 0; commands = 0; legs = 0; sum = 0; fewest = nones 33 })
  pub nine_mask : Keeps form elements bytes_p (run_bytes (run (2 ∷ []) (3 ∷ 4 ∷ [])))
      (record { code = 9; place = 0; commands = 0; legs = 0; sum = 0; fewest = nones 33 })
  -- "8" and 02's 12, whatever the run
  pub eight : {run : List ℕ} → Keeps form elements (bytes_q ++ recorded item_q3) run
      (record { code = 8; place = 225; commands = 0; legs = 0; sum = 0; fewest = nones 33 })
  pub stuck_at_one : {run : List ℕ} → Keeps form elements (bytes_p ++ recorded one_stuck) run
      (record { code = 8; place = 148; commands = 0; legs = 0; sum = 0; fewest = nones 33 })
  pub twelve : {run : List ℕ} → Keeps form elements (bytes_q ++ recorded item_q4) run
      (record { code = 12; place = 225; commands = 0; legs = 0; sum = 0; fewest = nones 33 })
  -- the table, slots and weights of the book with 2 states and 3 commands are read, whatever the run
  pub uneven_read : {run : List ℕ} {l : AllLent E} {r : Assembly} {l' : AllLent E} → Assembles form (asked bytes_p run) l r l' → AllStated elements l
      → UnevenRead l.read l'.read
  -- "1, 0: a lent buffer shorter than stated; all untouched", whatever book and run
  pub one : {book run : List ℕ} {l : AllLent E} {r : Assembly} {l' : AllLent E} → Assembles form (asked book run) l r l' → AnyShorter fewer l
      → (r ≡ record { code = 1; place = 0; commands = 0; legs = 0; sum = 0; fewest = nones 33 }) × (l' ≡ l)
  -- what reading refuses, whatever the run
  pub two : {run : List ℕ} → KeepsAll form elements (take 224 bytes_q) run
      (record { code = 2; place = 201; commands = 0; legs = 0; sum = 0; fewest = nones 33 })
  pub three : {run : List ℕ} → KeepsAll form elements (bytes_q ++ 0 ∷ 0 ∷ 4 ∷ 0 ∷ []) run
      (record { code = 3; place = 225; commands = 0; legs = 0; sum = 0; fewest = nones 33 })
  pub four : {run : List ℕ} → KeepsAll form elements (bytes_q ++ 1 ∷ 0 ∷ 3 ∷ 0 ∷ 9 ∷ []) run
      (record { code = 4; place = 225; commands = 0; legs = 0; sum = 0; fewest = nones 33 })
  pub five : {run : List ℕ} → KeepsAll form elements (bytes_q ++ 2 ∷ 0 ∷ 3 ∷ 0 ∷ 1 ∷ 9 ∷ []) run
      (record { code = 5; place = 225; commands = 0; legs = 0; sum = 0; fewest = nones 33 })
  pub six : {run : List ℕ} → KeepsAll form elements (with_move (move 0 2 6)) run
      (record { code = 6; place = 48; commands = 0; legs = 0; sum = 0; fewest = nones 33 })
  pub seven : {run : List ℕ} → KeepsAll form elements (bytes_of many ++ 0 ∷ 0 ∷ 3 ∷ 0 ∷ []) run
      (record { code = 7; place = 1478; commands = 0; legs = 0; sum = 0; fewest = nones 33 })
  pub thirteen : {run : List ℕ} → KeepsAll form elements (after_device (6 ∷ 0 ∷ 5 ∷ 0 ∷ 1 ∷ 0 ∷ 1 ∷ 0 ∷ 1 ∷ 0 ∷ [])) run
      (record { code = 13; place = 6; commands = 0; legs = 0; sum = 0; fewest = nones 33 })

-- 02: "a scratch of 64 masks": of exactly the stated length, with 256 and 96 bytes for plan and legs
pub record ScratchStated (scratch : List ℕ) (room : Room ℕ) : Type 0 where
  pub scratch_64 : length scratch ≡ 64
  pub room_stated : RoomStated 96 room

pub data ScratchShorter (scratch : List ℕ) (room : Room ℕ) : Type 0 where
  scratch_63 : length scratch ≡ 63 → ScratchShorter scratch room
  room_shorter : RoomShorter 95 room → ScratchShorter scratch room

pub record SmallEdges : Type 0 where
  -- 02: "result, plan and legs equal the first form's": every case of the first form holds of this one
  pub as_first : {book : List ℕ} {u : Run} {answer : Assembly} {plan legs : List ℕ} → Gives in_bytes 96 book u answer plan legs
      → {scratch : List ℕ} {room : Room ℕ} {r : Assembly} {scratch' : List ℕ} {room' : Room ℕ}
      → AssemblesSmall (asked book (run_bytes u)) scratch room r scratch' room' → ScratchStated scratch room
      → (r ≡ answer) × Written plan room.plan room'.plan × Written legs room.legs room'.legs
  pub refused_as_first : {book run : List ℕ} {answer : Assembly} → Keeps in_bytes 96 book run answer
      → {scratch : List ℕ} {room : Room ℕ} {r : Assembly} {scratch' : List ℕ} {room' : Room ℕ}
      → AssemblesSmall (asked book run) scratch room r scratch' room' → ScratchStated scratch room → (r ≡ answer) × (room' ≡ room)
  -- 02: "untouched on 1"
  pub one : {book run scratch : List ℕ} {room : Room ℕ} {r : Assembly} {scratch' : List ℕ} {room' : Room ℕ}
      → AssemblesSmall (asked book run) scratch room r scratch' room' → ScratchShorter scratch room
      → (r ≡ record { code = 1; place = 0; commands = 0; legs = 0; sum = 0; fewest = nones 33 }) × (scratch' ≡ scratch) × (room' ≡ room)
