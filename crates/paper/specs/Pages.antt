-- What the call that assembles on paper answers and leaves in the lent buffers (02, request 3), for the reader. Assumes nothing: these are definitions.
use Rattle.std.specs.Prelude.{◌≡◌, List, [], ◌∷◌, map, ℕ, zero, suc, ◌+◌, ◌*◌, length, take}
use Rattle.base.specs.Lists.{Each, Written}
use Rattle.base.specs.Sizes.{Sized, ◌for◌, LongEnough}
use Rattle.reversal.specs.Runs.{Run, last}
use Rattle.reversal.specs.Chains.{Leg, legs_of}
use Rattle.book.specs.Book.{Book, items_for}
use Rattle.checker.specs.Checks.{AcceptedBook}
use Rattle.assembly.specs.Asked.{Asked}
use Rattle.assembly.specs.Lent.{legs_bytes, in_bytes, AllLent}
use Rattle.assembly.specs.Assembles.{refusal, Assembles}
use Rattle.assembly.specs.Demand.{Given, Planned, Demand}
use Rattle.paper.specs.declared.Paged.{Paged}
use Rattle.paper.specs.Layout.{page_of}
use Rattle.paper.specs.Taken.{lines_in, on_line, leg_on, commands_on, down}

-- the legs that were written, with the book's items, are laid out at the start of the page: "bytes past the length stay"
pub record Laid (book : List ℕ) (r : Paged) (legs' page page' : List ℕ) : Type 0 where
  pub the_book : Book
  pub accepted : AcceptedBook book the_book
  pub legs : List Leg
  pub legs_are : take (3 * r.assembly.legs) legs' ≡ legs_bytes legs
  pub written : Written (page_of (items_for the_book) legs) page page'
  pub length_is : r.length ≡ length (page_of (items_for the_book) legs)

-- "a page buffer of 1,312 bytes"
abbrev pub page_sizes : List ℕ → List Sized
page_sizes page = (length page for 1312) ∷ []

-- of a book, a run, the buffers that assembling takes and a page, at entry; the result and the buffers at exit
pub data Pages (ask : Asked) (l : AllLent ℕ) (page : List ℕ) (r : Paged) (l' : AllLent ℕ) (page' : List ℕ) : Type 0 where
  -- "a shorter one is code 1"; 01: "all untouched"
  short : (LongEnough (page_sizes page) → ⊥) → r ≡ record { assembly = refusal 1 0; length = 0 } → l' ≡ l → page' ≡ page → Pages ask l page r l' page'
  -- "The call takes and fills what assembling does", "It refuses as assembling does, page untouched, length 0"
  refused : LongEnough (page_sizes page) → Assembles in_bytes ask l r.assembly l' → (r.assembly.code ≡ 0 → ⊥) → r.length ≡ 0 → page' ≡ page
      → Pages ask l page r l' page'
  -- "Lay it out with one line per leg"
  laid : LongEnough (page_sizes page) → Assembles in_bytes ask l r.assembly l' → r.assembly.code ≡ 0 → Laid ask.book r l'.room.legs page page'
      → Pages ask l page r l' page'

-- demand 3 of this call is assembling's, where the page is no fault; and the chain that it speaks of is the one laid out
pub record PageDemand (ask : Asked) (l : AllLent ℕ) (page : List ℕ) (r : Paged) (l' : AllLent ℕ) (page' : List ℕ) : Type 0 where
  pub enough : LongEnough (page_sizes page) → Demand in_bytes ask l r.assembly l'
  pub short : (LongEnough (page_sizes page) → ⊥) → r.assembly.code ≡ 1
  pub chain_laid : r.assembly.code ≡ 0 → (b : Book) (u : Run) → Given ask b u → (p : Planned in_bytes b u r.assembly l'.room)
      → take r.length page' ≡ page_of (items_for b) (legs_of (items_for b) (last u) p.items)

-- k, k + 1, .. : n numbers
unfoldable pub up_from : ℕ → ℕ → List ℕ
up_from k zero = []
up_from k (suc n) = k ∷ up_from (k + 1) n

-- the lines of the page's text
abbrev pub lines_on : Paged → List ℕ → List (List ℕ)
lines_on r page' = lines_in (take r.length page')

-- "The commands, taken down the page, are the plan", on whatever code; item numbers and points are the legs, the lines are numbered from 1, and each
-- counts its commands and has 40 characters, so that each leg has 41 bytes. That the commands stand on the line of their leg is `Laid`.
pub record TakenDown (r : Paged) (l' : AllLent ℕ) (page' : List ℕ) : Type 0 where
  pub commands : down commands_on (lines_on r page') ≡ take r.assembly.commands l'.room.plan
  pub legs : down leg_on (lines_on r page') ≡ take (3 * r.assembly.legs) l'.room.legs
  pub numbered : down (on_line 0) (lines_on r page') ≡ up_from 1 r.assembly.legs
  pub counted : down (on_line 4) (lines_on r page') ≡ map (λ line. length (commands_on line)) (lines_on r page')
  pub wide : Each (λ line. length line ≡ 40) (lines_on r page')
  pub long : r.length ≡ 41 * r.assembly.legs
