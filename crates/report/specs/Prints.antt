-- What the program `rollback` prints for the bytes of book.bin and run.bin (01, "Small device Q"), for the reader. Assumes nothing: these are definitions.
use Rattle.std.specs.Prelude.{◌≡◌, List, ℕ, ◌≤◌, length, take, replicate}
use Rattle.std.proofs.lemmas.List.Edits.{sets}
use Rattle.book.specs.Lent.{lent}
use Rattle.assembly.specs.Asked.{asked}
use Rattle.assembly.specs.declared.Assembly.{Assembly}
use Rattle.assembly.specs.Lent.{in_bytes, AllLent, all_lent}
use Rattle.assembly.specs.Assembles.{Assembles}
use Rattle.show.specs.Show.{lines_of}

-- buffers of the stated lengths that hold zeros
abbrev pub zeros : AllLent ℕ
zeros = all_lent (lent (replicate 2048 0) (replicate 2176 0) (replicate 32 0)) (replicate 256 0) (replicate 96 0)

-- "judges at most the first 31,111 bytes of book.bin and 302 of run.bin"; 02: "The largest book grows by 68 bytes, and with it
-- .. program's limit": what assembling answers for these, in zeroed
-- buffers, as text: "Line 1: code, place, command count, leg count. Line 2, only for code 0: the commands"
pub record Prints (book run text : List ℕ) : Type 0 where
  pub result : Assembly
  pub left : AllLent ℕ
  pub assembled : Assembles in_bytes (asked (take 31179 book) (take 302 run)) zeros result left
  pub lines : text ≡ lines_of result.code result.place result.commands result.legs (take result.commands left.room.plan)

-- what `report` leaves in the lent row `out`, which is `out'` at exit, and answers: the text, and its length
pub record Reports (book run out : List ℕ) (r : ℕ) (out' : List ℕ) : Type 0 where
  pub text : List ℕ
  pub prints : Prints book run text
  pub size : r ≡ length text
  pub most : r ≤ 5461
  pub stored : out' ≡ sets out 0 text
