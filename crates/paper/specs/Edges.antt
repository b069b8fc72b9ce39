-- The call that assembles on paper at both sides of the page's length, and each of its codes with the whole answer, with literal numbers. Assumes
-- nothing: these are definitions.
use Rattle.std.specs.Prelude.{◌≡◌, List, [], ◌∷◌, ◌++◌, ℕ, length, take}
use Rattle.reversal.specs.Twelve.{item_q3, item_q4, run}
use Rattle.reversal.specs.Slips.{run_tie}
use Rattle.reversal.specs.Longest.{run_long, sums_long}
use Rattle.book.specs.Book.{bytes_of}
use Rattle.book.specs.Example.{move, bytes_q, many, with_move, after_device}
use Rattle.book.specs.Further.{bytes_p, bytes_tie, bytes_long}
use Rattle.checker.specs.Cases.{recorded}
use Rattle.runs.specs.RunBytes.{run_bytes}
use Rattle.assembly.specs.Asked.{asked}
use Rattle.assembly.specs.Lent.{AllLent}
use Rattle.assembly.specs.Edges.{nones, AllStated, AnyShorter}
use Rattle.paper.specs.declared.Paged.{Paged}
use Rattle.paper.specs.Pages.{Pages}

-- in buffers of exactly the stated lengths, with "a page buffer of 1,312 bytes", this book and this run
pub record PageAnswers (book run : List ℕ) (answer : Paged) : Type 0 where
  pub result : {l : AllLent ℕ} {page : List ℕ} {r : Paged} {l' : AllLent ℕ} {page' : List ℕ} → Pages (asked book run) l page r l' page' → AllStated 96 l
      → length page ≡ 1312 → r ≡ answer

-- "It refuses as assembling does, page untouched, length 0"
pub record PageKept (book run : List ℕ) (answer : Paged) : Type 0 where
  pub result : {l : AllLent ℕ} {page : List ℕ} {r : Paged} {l' : AllLent ℕ} {page' : List ℕ} → Pages (asked book run) l page r l' page' → AllStated 96 l
      → length page ≡ 1312 → (r ≡ answer) × (page' ≡ page)

pub record Edges : Type 0 where
  -- one leg, two legs and none: 41 bytes a leg
  pub q5 : PageAnswers bytes_q (run_bytes (run (2 ∷ 1 ∷ []) (7 ∷ 7 ∷ 7 ∷ [])))
      (record { assembly = record { code = 0; place = 0; commands = 1; legs = 1; sum = 1; fewest = 0 ∷ 1 ∷ 1 ∷ nones 30 }; length = 41 })
  pub tie : PageAnswers bytes_tie (run_bytes run_tie)
      (record { assembly = record { code = 0; place = 0; commands = 1; legs = 2; sum = 1; fewest = 0 ∷ 1 ∷ 1 ∷ nones 30 }; length = 82 })
  pub q11 : PageAnswers bytes_q (run_bytes (run [] (7 ∷ [])))
      (record { assembly = record { code = 0; place = 0; commands = 0; legs = 0; sum = 0; fewest = 0 ∷ nones 32 }; length = 0 })
  pub uneven : PageAnswers bytes_p (run_bytes (run (1 ∷ []) (1 ∷ 3 ∷ [])))
      (record { assembly = record { code = 0; place = 0; commands = 1; legs = 1; sum = 1000; fewest = 0 ∷ 1000 ∷ nones 31 }; length = 41 })
  -- 32 legs: the page is full
  pub long : PageAnswers bytes_long (run_bytes run_long)
      (record { assembly = record { code = 0; place = 0; commands = 256; legs = 32; sum = 256000; fewest = sums_long }; length = 1312 })
  pub eleven : PageKept bytes_q (run_bytes (run (1 ∷ []) (7 ∷ 7 ∷ [])))
      (record { assembly = record { code = 11; place = 0; commands = 0; legs = 0; sum = 0; fewest = 0 ∷ nones 32 }; length = 0 })
  pub ten : PageKept bytes_q (run_bytes (run (2 ∷ 2 ∷ []) (7 ∷ 7 ∷ 7 ∷ [])))
      (record { assembly = record { code = 10; place = 0; commands = 0; legs = 0; sum = 0; fewest = nones 33 }; length = 0 })
  pub nine : PageKept bytes_q [] (record { assembly = record { code = 9; place = 0; commands = 0; legs = 0; sum = 0; fewest = nones 33 }; length = 0 })
  pub eight : PageKept (bytes_q ++ recorded item_q3) []
      (record { assembly = record { code = 8; place = 225; commands = 0; legs = 0; sum = 0; fewest = nones 33 }; length = 0 })
  pub twelve : PageKept (bytes_q ++ recorded item_q4) []
      (record { assembly = record { code = 12; place = 225; commands = 0; legs = 0; sum = 0; fewest = nones 33 }; length = 0 })
  pub two : PageKept (take 224 bytes_q) []
      (record { assembly = record { code = 2; place = 201; commands = 0; legs = 0; sum = 0; fewest = nones 33 }; length = 0 })
  pub three : PageKept (bytes_q ++ 0 ∷ 0 ∷ 4 ∷ 0 ∷ []) []
      (record { assembly = record { code = 3; place = 225; commands = 0; legs = 0; sum = 0; fewest = nones 33 }; length = 0 })
  pub four : PageKept (bytes_q ++ 1 ∷ 0 ∷ 3 ∷ 0 ∷ 9 ∷ []) []
      (record { assembly = record { code = 4; place = 225; commands = 0; legs = 0; sum = 0; fewest = nones 33 }; length = 0 })
  pub five : PageKept (bytes_q ++ 2 ∷ 0 ∷ 3 ∷ 0 ∷ 1 ∷ 9 ∷ []) []
      (record { assembly = record { code = 5; place = 225; commands = 0; legs = 0; sum = 0; fewest = nones 33 }; length = 0 })
  pub six : PageKept (with_move (move 0 2 6)) []
      (record { assembly = record { code = 6; place = 48; commands = 0; legs = 0; sum = 0; fewest = nones 33 }; length = 0 })
  pub seven : PageKept (bytes_of many ++ 0 ∷ 0 ∷ 3 ∷ 0 ∷ []) []
      (record { assembly = record { code = 7; place = 1478; commands = 0; legs = 0; sum = 0; fewest = nones 33 }; length = 0 })
  pub thirteen : PageKept (after_device (6 ∷ 0 ∷ 5 ∷ 0 ∷ 1 ∷ 0 ∷ 1 ∷ 0 ∷ 1 ∷ 0 ∷ [])) []
      (record { assembly = record { code = 13; place = 6; commands = 0; legs = 0; sum = 0; fewest = nones 33 }; length = 0 })
  -- 1 for another buffer, with a page that is long enough; the page of 1,311 bytes stands in Cases
  pub one : {book run : List ℕ} {l : AllLent ℕ} {page : List ℕ} {r : Paged} {l' : AllLent ℕ} {page' : List ℕ} → Pages (asked book run) l page r l' page'
      → AnyShorter 95 l → length page ≡ 1312
      → (r ≡ record { assembly = record { code = 1; place = 0; commands = 0; legs = 0; sum = 0; fewest = nones 33 }; length = 0 })
      × (l' ≡ l) × (page' ≡ page)
