-- The worked cases, of a call: evidence beside the claims. Assumes nothing: these are definitions.
use Rattle.std.specs.Prelude.{◌≡◌, List, [], ◌∷◌, ℕ, ◌≤◌, length, get_or, replicate}
use Rattle.base.specs.Lists.{Written}
use Rattle.base.specs.Sizes.{LongEnough}
use Rattle.reversal.specs.Runs.{Run}
use Rattle.reversal.specs.Answers.{Answer}
use Rattle.book.specs.Lent.{Lent, sizes}
use Rattle.book.specs.Example.{bytes_q}
use Rattle.reader.specs.declared.Reading.{Reading}
use Rattle.reader.specs.Edges.{Stated, ReadsTo}
use Rattle.checker.specs.declared.Checking.{Checking}
use Rattle.checker.specs.declared.TableChecking.{TableChecking}
use Rattle.checker.specs.Cases.{Judges, TableGives, TableKept}
use Rattle.forecast.specs.declared.Forecasted.{Forecasted}
use Rattle.forecast.specs.Cases.{Foresees}
use Rattle.finder.specs.declared.Found.{Found}
use Rattle.finder.specs.Finds.{Sought}
use Rattle.finder.specs.Cases.{reply, Gives, Keeps}
use Rattle.writer.specs.declared.Writing.{Writing}
use Rattle.writer.specs.Cases.{zeros}
use Rattle.writer.specs.Edges.{RefusedWith, WritesTo}
use Rattle.runs.specs.RunBytes.{run_bytes}
use Rattle.assembly.specs.Asked.{Asked}
use Rattle.assembly.specs.declared.Assembly.{Assembly}
use Rattle.assembly.specs.Lent.{LegForm, in_bytes, AllLent, all_sizes}
use Rattle.assembly.specs.Assembles.{Left}
use Rattle.assembly.specs.Small.{small_sizes, beside}
use Rattle.assembly.specs.Cases.{BytesGive, BookRefused}
use Rattle.paper.specs.Pages.{page_sizes}
use Rattle.paper.specs.Cases.{PageGiven}
use Rattle.claims.specs.Claims.{Read, Check, Forecast, Small, LayOut}

-- the books of reader/specs/Edges
abbrev pub ReadsWorked : Read
ReadsWorked book l r l' = (answer : Reading) → ReadsTo book answer → Stated l → r ≡ answer

-- those that writer/specs/Edges takes and gives
pub record WritesWorked (n m items : ℕ) (l : Lent) (out : List ℕ) (r : Writing) (out' : List ℕ) : Type 0 where
  pub written : (answer : Writing) (book : List ℕ) → WritesTo n m items l answer book → out ≡ zeros 31178
      → (r ≡ answer) × Written book (zeros 31178) out'
  pub refused : (answer : Writing) → RefusedWith n m items l answer → out ≡ zeros 31178 → (r ≡ answer) × (out' ≡ zeros 31178)

-- the books of checker/specs/Cases
abbrev pub ChecksWorked : Check
ChecksWorked book l r l' = (answer : Checking) → Judges book answer → LongEnough (sizes l) → r ≡ answer

-- those with a table as the only buffer
pub record TableWorked (book table : List ℕ) (r : TableChecking) (table' : List ℕ) : Type 0 where
  pub read : (answer : TableChecking) (entry mask : ℕ) → TableGives book answer entry mask → 2048 ≤ length table
      → (r ≡ answer) × (get_or table' entry 0 ≡ mask)
  pub kept : (answer : TableChecking) → TableKept book answer → 2048 ≤ length table → (r ≡ answer) × (table' ≡ table)

-- those of forecast/specs/Cases
abbrev pub ForecastsWorked : Forecast
ForecastsWorked book i r = (answer : Forecasted) → Foresees book i answer → r ≡ answer

-- those of finder/specs/Cases
pub record FindsWorked (book : List ℕ) (q : Sought) (table : List ℕ) (r : Found) (table' : List ℕ) : Type 0 where
  pub read : (answer : Found) (entry mask : ℕ) → Gives book q answer entry mask → 2048 ≤ length table → (r ≡ answer) × (get_or table' entry 0 ≡ mask)
  pub kept : (answer : Found) → Keeps book q answer → 2048 ≤ length table → (r ≡ answer) × (table' ≡ table)
  pub short : length table ≡ 2047 → (r ≡ reply 1 0 0 (0 ∷ 0 ∷ 0 ∷ [])) × (table' ≡ table)

-- the runs of the joint table, those with weights, and the books that are refused
pub record AssemblesWorked {E : Type 0} (form : LegForm E) (ask : Asked) (l : AllLent E) (r : Assembly) (l' : AllLent E) : Type 0 where
  pub run_lent : (u : Run) (a : Answer) → BytesGive form ask.book u a → ask.run ≡ run_bytes u → LongEnough (all_sizes form l)
      → Left form a l.room r l'.room
  pub refused : (code place : ℕ) → BookRefused form ask.book code place → LongEnough (all_sizes form l)
      → (r ≡ record { code = code; place = place; commands = 0; legs = 0; sum = 0; fewest = replicate 33 4294967295 }) × (l'.room ≡ l.room)

-- the same with a scratch, as the first form in any table, slots and weights that are long enough
abbrev pub SmallWorked : Small
SmallWorked ask scratch room r scratch' room' =
    LongEnough (small_sizes scratch room) → (l : Lent) → LongEnough (sizes l)
    → (l' : Lent) × AssemblesWorked in_bytes ask (beside room l) r (beside room' l')

-- the pages of paper/specs/Cases
abbrev pub PaperWorked : LayOut
PaperWorked ask l page r l' page' =
    (u : Run) (text : List ℕ) → PageGiven u text → ask.book ≡ bytes_q → ask.run ≡ run_bytes u → LongEnough (all_sizes in_bytes l) → LongEnough (page_sizes page)
    → Written text page page' × (r.length ≡ length text)
