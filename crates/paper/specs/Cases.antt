-- Pages worked out by hand, byte by byte: a line with all its columns, the pages of Q5, Q8, Q9 and Q11 on Q, and a short page.
-- Assumes nothing: these are definitions.
use Rattle.std.specs.Prelude.{◌≡◌, List, [], ◌∷◌, ℕ, length, replicate}
use Rattle.base.specs.Lists.{Written}
use Rattle.base.specs.Sizes.{LongEnough}
use Rattle.reversal.specs.Runs.{Run}
use Rattle.reversal.specs.Twelve.{run, leg}
use Rattle.book.specs.Example.{bytes_q}
use Rattle.runs.specs.RunBytes.{run_bytes}
use Rattle.assembly.specs.Asked.{Asked, asked}
use Rattle.assembly.specs.Lent.{in_bytes, AllLent, all_sizes}
use Rattle.paper.specs.declared.Paged.{Paged}
use Rattle.paper.specs.Layout.{line_of}
use Rattle.paper.specs.Taken.{lines_in, on_line, leg_on, commands_on, down}
use Rattle.paper.specs.Pages.{page_sizes, Pages}

-- leg 12, from point 21 to 13 by item 63, with eight commands: the line
--  12 21 13  63  8 31  0  9 10  5 20  1 30
abbrev pub full_line : List ℕ
full_line =
    32 ∷ 49 ∷ 50 ∷ 32 ∷ 50 ∷ 49 ∷ 32 ∷ 49 ∷ 51 ∷ 32 ∷ 32 ∷ 54 ∷ 51 ∷ 32 ∷ 32 ∷ 56 ∷ 32 ∷ 51 ∷ 49 ∷ 32 ∷ 32 ∷
    48 ∷ 32 ∷ 32 ∷ 57 ∷ 32 ∷ 49 ∷ 48 ∷ 32 ∷ 32 ∷ 53 ∷ 32 ∷ 50 ∷ 48 ∷ 32 ∷ 32 ∷ 49 ∷ 32 ∷ 51 ∷ 48 ∷ 10 ∷ []

pub record Lines : Type 0 where
  pub full : line_of 12 (leg 63 21 13) (31 ∷ 0 ∷ 9 ∷ 10 ∷ 5 ∷ 20 ∷ 1 ∷ 30 ∷ []) ≡ full_line
  -- the same text, taken apart
  pub full_numbered : down (on_line 0) (lines_in full_line) ≡ 12 ∷ []
  pub full_leg : down leg_on (lines_in full_line) ≡ 63 ∷ 21 ∷ 13 ∷ []
  pub full_counted : down (on_line 4) (lines_in full_line) ≡ 8 ∷ []
  pub full_commands : down commands_on (lines_in full_line) ≡ 31 ∷ 0 ∷ 9 ∷ 10 ∷ 5 ∷ 20 ∷ 1 ∷ 30 ∷ []

-- in buffers that are long enough, with Q's book: the text, and all else of the page kept
pub record PageGiven (u : Run) (text : List ℕ) : Type 0 where
  pub written : {l : AllLent ℕ} {page : List ℕ} {r : Paged} {l' : AllLent ℕ} {page' : List ℕ} → Pages (asked bytes_q (run_bytes u)) l page r l' page'
      → LongEnough (all_sizes in_bytes l) → LongEnough (page_sizes page) → Written text page page' × (r.length ≡ length text)

pub record PageRuns : Type 0 where
  -- "plan 0", by item 2 from point 2 to 0
  pub q5 : PageGiven (run (2 ∷ 1 ∷ []) (7 ∷ 7 ∷ 7 ∷ []))
      (32 ∷ 32 ∷ 49 ∷ 32 ∷ 32 ∷ 50 ∷ 32 ∷ 32 ∷ 48 ∷ 32 ∷ 32 ∷ 32 ∷ 50 ∷ 32 ∷ 32 ∷ 49 ∷ 32 ∷ 32 ∷ 48 ∷ 32 ∷ 32 ∷
      32 ∷ 32 ∷ 32 ∷ 32 ∷ 32 ∷ 32 ∷ 32 ∷ 32 ∷ 32 ∷ 32 ∷ 32 ∷ 32 ∷ 32 ∷ 32 ∷ 32 ∷ 32 ∷ 32 ∷ 32 ∷ 32 ∷ 10 ∷ [])
  -- "plan 0, items 3, 1": item 3 has no reverse commands
  pub q8 : PageGiven (run (1 ∷ 1 ∷ []) (1 ∷ 7 ∷ 7 ∷ []))
      (32 ∷ 32 ∷ 49 ∷ 32 ∷ 32 ∷ 50 ∷ 32 ∷ 32 ∷ 49 ∷ 32 ∷ 32 ∷ 32 ∷ 51 ∷ 32 ∷ 32 ∷ 48 ∷ 32 ∷ 32 ∷ 32 ∷ 32 ∷ 32 ∷
      32 ∷ 32 ∷ 32 ∷ 32 ∷ 32 ∷ 32 ∷ 32 ∷ 32 ∷ 32 ∷ 32 ∷ 32 ∷ 32 ∷ 32 ∷ 32 ∷ 32 ∷ 32 ∷ 32 ∷ 32 ∷ 32 ∷ 10 ∷
      32 ∷ 32 ∷ 50 ∷ 32 ∷ 32 ∷ 49 ∷ 32 ∷ 32 ∷ 48 ∷ 32 ∷ 32 ∷ 32 ∷ 49 ∷ 32 ∷ 32 ∷ 49 ∷ 32 ∷ 32 ∷ 48 ∷ 32 ∷ 32 ∷
      32 ∷ 32 ∷ 32 ∷ 32 ∷ 32 ∷ 32 ∷ 32 ∷ 32 ∷ 32 ∷ 32 ∷ 32 ∷ 32 ∷ 32 ∷ 32 ∷ 32 ∷ 32 ∷ 32 ∷ 32 ∷ 32 ∷ 10 ∷ [])
  -- "code 11": untouched
  pub q9 : PageGiven (run (1 ∷ []) (7 ∷ 7 ∷ [])) []
  -- "empty plan": no legs
  pub q11 : PageGiven (run [] (7 ∷ [])) []
  -- a page of 1,311 bytes, whatever book, run and other buffers are
  pub short : {ask : Asked} {l : AllLent ℕ} {page : List ℕ} {r : Paged} {l' : AllLent ℕ} {page' : List ℕ} → Pages ask l page r l' page'
      → length page ≡ 1311
      → (r ≡ record { assembly = record { code = 1; place = 0; commands = 0; legs = 0; sum = 0; fewest = replicate 33 4294967295 }; length = 0 })
      × (l' ≡ l) × (page' ≡ page)
