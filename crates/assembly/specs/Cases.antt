-- The joint table of the twelve cases, of bytes: Q's 225 bytes and the runs as bytes, and the leg bytes as literals; the two cases with weights; and
-- books that are refused.
-- Assumes nothing: these are definitions.
use Rattle.std.specs.Prelude.{◌≡◌, List, [], ◌∷◌, ◌++◌, replicate, ℕ}
use Rattle.base.specs.Lists.{Written}
use Rattle.base.specs.Sizes.{LongEnough}
use Rattle.reversal.specs.Runs.{Run}
use Rattle.reversal.specs.Answers.{Answer}
use Rattle.reversal.specs.Twelve.{item_q3, item_q4, run, leg, found, turned}
use Rattle.reversal.specs.Weighted.{run_w}
use Rattle.book.specs.Example.{bytes_q, bytes_dear, bytes_even}
use Rattle.checker.specs.Cases.{recorded}
use Rattle.runs.specs.RunBytes.{run_bytes}
use Rattle.assembly.specs.Asked.{asked}
use Rattle.assembly.specs.declared.Assembly.{Assembly}
use Rattle.assembly.specs.Lent.{LegForm, in_bytes, AllLent, all_sizes}
use Rattle.assembly.specs.Assembles.{Left, Assembles}

-- in buffers that are long enough, with this book
pub record BytesGive {E : Type 0} (form : LegForm E) (book : List ℕ) (u : Run) (a : Answer) : Type 0 where
  pub left : {l : AllLent E} {r : Assembly} {l' : AllLent E} → Assembles form (asked book (run_bytes u)) l r l' → LongEnough (all_sizes form l)
      → Left form a l.room r l'.room

-- in buffers that are long enough, this book is refused whatever the run: 9, 10 and 11 come after 8 and 12
pub record BookRefused {E : Type 0} (form : LegForm E) (book : List ℕ) (code place : ℕ) : Type 0 where
  pub left : {run : List ℕ} {l : AllLent E} {r : Assembly} {l' : AllLent E} → Assembles form (asked book run) l r l' → LongEnough (all_sizes form l)
      → (r ≡ record { code = code; place = place; commands = 0; legs = 0; sum = 0; fewest = replicate 33 4294967295 }) × (l'.room ≡ l.room)

pub record Runs {E : Type 0} (form : LegForm E) : Type 0 where
  -- Q's book with the item of Q3, and with that of Q4, behind its items
  pub q3 : BookRefused form (bytes_q ++ recorded item_q3) 8 225
  pub q4 : BookRefused form (bytes_q ++ recorded item_q4) 12 225
  pub q5 : BytesGive form bytes_q (run (2 ∷ 1 ∷ []) (7 ∷ 7 ∷ 7 ∷ [])) (found (0 ∷ []) (leg 2 2 0 ∷ []) 1 1 1 (0 ∷ 1 ∷ 1 ∷ []) 30)
  pub q6 : BytesGive form bytes_q (run (2 ∷ 1 ∷ []) (7 ∷ 2 ∷ 7 ∷ [])) (found (0 ∷ []) (leg 2 2 0 ∷ []) 1 1 1 (0 ∷ 1 ∷ 1 ∷ []) 30)
  pub q7 : BytesGive form bytes_q (run (2 ∷ []) (7 ∷ 7 ∷ [])) (found (0 ∷ []) (leg 4 1 0 ∷ []) 1 1 1 (0 ∷ 1 ∷ []) 31)
  pub q8 : BytesGive form bytes_q (run (1 ∷ 1 ∷ []) (1 ∷ 7 ∷ 7 ∷ [])) (found (0 ∷ []) (leg 3 2 1 ∷ leg 1 1 0 ∷ []) 1 2 1 (0 ∷ 1 ∷ 1 ∷ []) 30)
  pub q9 : BytesGive form bytes_q (run (1 ∷ []) (7 ∷ 7 ∷ [])) (turned 11 (0 ∷ replicate 32 4294967295))
  pub q10 : BytesGive form bytes_q (run (2 ∷ 2 ∷ []) (7 ∷ 7 ∷ 7 ∷ [])) (turned 10 (replicate 33 4294967295))
  pub q11 : BytesGive form bytes_q (run [] (7 ∷ [])) (found [] [] 0 0 0 (0 ∷ []) 32)
  pub q12 : BytesGive form bytes_q (run [] (0 ∷ [])) (turned 10 (replicate 33 4294967295))
  -- the chain with more commands is the cheaper; equal sums and different counts
  pub more_commands : BytesGive form bytes_dear run_w (found (1 ∷ 1 ∷ 1 ∷ []) (leg 1 1 0 ∷ []) 3 1 6 (0 ∷ 6 ∷ []) 31)
  pub equal_sums : BytesGive form bytes_even run_w (found (1 ∷ 1 ∷ 1 ∷ []) (leg 0 1 0 ∷ []) 3 1 6 (0 ∷ 6 ∷ []) 31)

-- the leg bytes: item number, upper point, lower point
pub record LegBytes (book : List ℕ) (u : Run) (bytes : List ℕ) : Type 0 where
  pub written : {l : AllLent ℕ} {r : Assembly} {l' : AllLent ℕ} → Assembles in_bytes (asked book (run_bytes u)) l r l' → LongEnough (all_sizes in_bytes l)
      → Written bytes l.room.legs l'.room.legs

pub record LegRuns : Type 0 where
  pub q5 : LegBytes bytes_q (run (2 ∷ 1 ∷ []) (7 ∷ 7 ∷ 7 ∷ [])) (2 ∷ 2 ∷ 0 ∷ [])
  pub q6 : LegBytes bytes_q (run (2 ∷ 1 ∷ []) (7 ∷ 2 ∷ 7 ∷ [])) (2 ∷ 2 ∷ 0 ∷ [])
  pub q7 : LegBytes bytes_q (run (2 ∷ []) (7 ∷ 7 ∷ [])) (4 ∷ 1 ∷ 0 ∷ [])
  pub q8 : LegBytes bytes_q (run (1 ∷ 1 ∷ []) (1 ∷ 7 ∷ 7 ∷ [])) (3 ∷ 2 ∷ 1 ∷ 1 ∷ 1 ∷ 0 ∷ [])
  pub q9 : LegBytes bytes_q (run (1 ∷ []) (7 ∷ 7 ∷ [])) []
  pub q10 : LegBytes bytes_q (run (2 ∷ 2 ∷ []) (7 ∷ 7 ∷ 7 ∷ [])) []
  pub q11 : LegBytes bytes_q (run [] (7 ∷ [])) []
  pub q12 : LegBytes bytes_q (run [] (0 ∷ [])) []
  pub more_commands : LegBytes bytes_dear run_w (1 ∷ 1 ∷ 0 ∷ [])
  pub equal_sums : LegBytes bytes_even run_w (0 ∷ 1 ∷ 0 ∷ [])
