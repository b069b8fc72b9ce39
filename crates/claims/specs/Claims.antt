-- What is claimed of the public calls: for each call a record of claims about a routine ρ, which proofs/Page gives for the call itself and for the
-- exported one. A claim speaks of the arguments, the result r and the arguments at exit, marked '. Nothing is asked of the caller
-- (of `AlwaysHeld`: specs/Always).
use base.Fml.{Lft}
use contract.BorrowLft.{◌⊑◌}
use contract.Lifetimes.{Lfts, lft_at}
use denote.RattleType.{RattleType}
use denote.Triple.Clauses.{Ended}
use mir.Syntax.{Dict, erased}
use Rattle.std.specs.Prelude.{◌≡◌, Option, Result, Ok, Err, ◌↔◌, List, [], ◌∷◌, ◌++◌, ℕ, ◌*◌, ◌/◌, ◌%◌, ◌<◌, ◌≤◌, length, get_or, take}
use Rattle.base.specs.Sizes.{LongEnough}
use Rattle.reversal.specs.Device.{Device}
use Rattle.reversal.specs.Reversal.{Item}
use Rattle.reversal.specs.Runs.{Run, last}
use Rattle.reversal.specs.Chains.{Chain, plan_of, Undoes}
use Rattle.book.specs.Book.{Book, device_of, AllowedBook, frame, item_rec, bytes_of, WellFormed, items_of, items_for}
use Rattle.states.specs.declared.Visited.{Visited}
use Rattle.states.specs.declared.StateSet.{StateSet}
use Rattle.states.specs.declared.device.Outcomes as outcomes_lent
use Rattle.states.specs.Visits.{VisitsPresent, SendsToPresent}
use Rattle.states.specs.contracts.StateSet.visit as visit
use Rattle.states.specs.contracts.StateSet.sent as sent
use Rattle.states.specs.contracts.device.Tabled as tabled_row
use Rattle.states.specs.contracts.device.TabledOutcomes.TheImpl as tabled_impl
use Rattle.states.specs.contracts.device.Moved as moved_row
use Rattle.states.specs.contracts.device.MovedOutcomes.TheImpl as moved_impl
use Rattle.book.specs.Lent.{Lent, lent, sizes, Holds}
use Rattle.reader.specs.declared.Reading.{Reading}
use Rattle.reader.specs.Reads.{refusal, Reads}
use Rattle.reader.specs.contracts.read as read
use Rattle.checker.specs.declared.Checking.{Checking}
use Rattle.checker.specs.declared.Reason.{Reason}
use Rattle.checker.specs.declared.Reason.TheVariants.{NoReversePlan, NotEffective}
use Rattle.checker.specs.Checks.{AcceptedBook, place_of, WrongFor, UnitsMade, with_units, Checks}
use Rattle.checker.specs.declared.TableChecking.{TableChecking}
use Rattle.checker.specs.TableChecks.{answer_of, TableChecks}
use Rattle.checker.specs.contracts.check as check
use Rattle.checker.specs.contracts.check_table as check-table
use Rattle.checker.specs.contracts.check_in_table as check-in-table
use Rattle.checker.specs.declared.Counts.{Counts}
use Rattle.checker.specs.declared.Rejected.{Rejected}
use Rattle.book.specs.Faults.{code_of}
use Rattle.forecast.specs.declared.Forecasted.{Forecasted}
use Rattle.forecast.specs.Forecasts.{Forecasts}
use Rattle.forecast.specs.contracts.forecast as forecast
use Rattle.finder.specs.declared.Found.{Found}
use Rattle.finder.specs.Finds.{Sought, sought, item_of, Makes, FirstOf, MayHold, refusal as not_found, Finds}
use Rattle.finder.specs.contracts.find as find
use Rattle.writer.specs.declared.Writing.{Writing}
use Rattle.writer.specs.Writes.{buffers, BookWritten, Writes}
use Rattle.writer.specs.contracts.write as write
use Rattle.assembly.specs.Asked.{Asked, asked}
use Rattle.assembly.specs.declared.Assembly.{Assembly}
use Rattle.assembly.specs.Lent.{in_bytes, Room, lent_room, AllLent, all_lent, all_sizes}
use Rattle.assembly.specs.Assembles.{Assembles}
use Rattle.assembly.specs.Demand.{Given, Demand}
use Rattle.assembly.specs.Small.{small_sizes, AssemblesSmall, SmallDemand}
use Rattle.assembly.specs.contracts.assemble as assemble
use Rattle.assembly.specs.contracts.assemble_small as assemble-small
use Rattle.lookups.specs.declared.LookupResult.{LookupResult}
use Rattle.lookups.specs.Rules.{DeviceRule, OutcomesOf}
use Rattle.lookups.specs.Lookup.{EqualsRule, Looked}
use Rattle.ridge_rule.specs.Ridge.{ridge}
use Rattle.ridge.specs.contracts.lookup as lookup
use Rattle.ridge_rule.specs.contracts.outcomes as outcomes
use Rattle.ridge.specs.contracts.table as ridge-table
use Rattle.ridge.specs.contracts.entries as ridge-entries
use Rattle.portable_rule.specs.Portable.{portable}
use Rattle.portable.specs.contracts.table as portable-table
use Rattle.portable.specs.contracts.entries as portable-entries
use Rattle.paper.specs.declared.Paged.{Paged}
use Rattle.paper.specs.Pages.{page_sizes, Pages, PageDemand, TakenDown}
use Rattle.paper.specs.contracts.lay_out as lay-out
use Rattle.planner.specs.declared.Leg.{Leg}
use Rattle.planner.specs.Structs.{in_structs}
use Rattle.planner.specs.contracts.rollback_assemble_legs as assemble-legs
use Rattle.report.specs.Prints.{Reports}
use Rattle.report.specs.contracts.report as report
use Rattle.claims.specs.Always.{After, Compiled, Always, AlwaysHeld}

-- ---- the shape of each call: P of the arguments, the result and what is at exit

abbrev pub Read : Type 1
Read = List ℕ → Lent → Reading → Lent → Type 0

abbrev pub on_read : Read → After read.ended
on_read P κs (book, (table, (slots, (weights, _)))) r (_, (table', (slots', (weights', _)))) =
    P book.now (lent table.now slots.now weights.now) r (lent table'.now slots'.now weights'.now)

abbrev pub Check : Type 1
Check = List ℕ → Lent → Checking → Lent → Type 0

abbrev pub on_check : Check → After check.ended
on_check P κs (book, (table, (slots, (weights, _)))) r (_, (table', (slots', (weights', _)))) =
    P book.now (lent table.now slots.now weights.now) r (lent table'.now slots'.now weights'.now)

-- a table is the only buffer
abbrev pub CheckTable : Type 1
CheckTable = List ℕ → List ℕ → TableChecking → List ℕ → Type 0

abbrev pub on_check_table : CheckTable → After check-table.ended
on_check_table P κs (book, (table, _)) r (_, (table', _)) = P book.now table.now r table'.now

-- the same with a `Result`, and the answer that it stands for
abbrev pub answer_by : Result Counts Rejected → TableChecking
answer_by (Ok b) = record { code = 0; place = 0; n = b.n; m = b.m }
answer_by (Err r) = record { code = code_of r.at.fault; place = r.at.place; n = 0; m = 0 }

abbrev pub on_check_in_table : CheckTable → After check-in-table.ended
on_check_in_table P κs (book, (table, _)) r (_, (table', _)) = P book.now table.now (answer_by r) table'.now

-- no buffer is lent
abbrev pub Forecast : Type 1
Forecast = List ℕ → ℕ → Forecasted → Type 0

abbrev pub on_forecast : Forecast → After forecast.ended
on_forecast P κs (book, (i, _)) r e = P book.now i r

abbrev pub Find : Type 1
Find = List ℕ → Sought → List ℕ → Found → List ℕ → Type 0

abbrev pub on_find : Find → After find.ended
on_find P κs (book, (forward, (phi, (psi, (table, _))))) r (_, (_, (_, (_, (table', _))))) =
    P book.now (sought forward.now phi psi) table.now r table'.now

abbrev pub Write : Type 1
Write = ℕ → ℕ → ℕ → Lent → List ℕ → Writing → List ℕ → Type 0

abbrev pub on_write : Write → After write.ended
on_write P κs (n, (m, (items, (table, (slots, (weights, (out, _))))))) r (_, (_, (_, (_, (_, (_, (out', _))))))) =
    P n m items (lent table.now slots.now weights.now) out.now r out'.now

abbrev pub Assemble : Type 0 → Type 1
Assemble E = Asked → AllLent E → Assembly → AllLent E → Type 0

abbrev pub on_assemble : Assemble ℕ → After assemble.ended
on_assemble P κs (book, (run, (table, (slots, (weights, (plan, (legs, _))))))) r (_, (_, (table', (slots', (weights', (plan', (legs', _))))))) =
    P (asked book.now run.now) (all_lent (lent table.now slots.now weights.now) plan.now legs.now) r
    (all_lent (lent table'.now slots'.now weights'.now) plan'.now legs'.now)

abbrev pub Small : Type 1
Small = Asked → List ℕ → Room ℕ → Assembly → List ℕ → Room ℕ → Type 0

abbrev pub on_small : Small → After assemble-small.ended
on_small P κs (book, (run, (scratch, (plan, (legs, _))))) r (_, (_, (scratch', (plan', (legs', _))))) =
    P (asked book.now run.now) scratch.now (lent_room plan.now legs.now) r scratch'.now (lent_room plan'.now legs'.now)

abbrev pub on_legs : Assemble Leg → After assemble-legs.ended
on_legs P κs (book, (run, (table, (slots, (weights, (plan, (legs, _))))))) r (_, (_, (table', (slots', (weights', (plan', (legs', _))))))) =
    P (asked book.now run.now) (all_lent (lent table.now slots.now weights.now) plan.now legs.now) r
    (all_lent (lent table'.now slots'.now weights'.now) plan'.now legs'.now)

abbrev pub LayOut : Type 1
LayOut = Asked → AllLent ℕ → List ℕ → Paged → AllLent ℕ → List ℕ → Type 0

abbrev pub on_lay_out : LayOut → After lay-out.ended
on_lay_out P κs (book, (run, (table, (slots, (weights, (plan, (legs, (page, _)))))))) r
    (_, (_, (table', (slots', (weights', (plan', (legs', (page', _)))))))) =
    P (asked book.now run.now) (all_lent (lent table.now slots.now weights.now) plan.now legs.now) page.now r
    (all_lent (lent table'.now slots'.now weights'.now) plan'.now legs'.now) page'.now

-- the two devices' lookups take and give the same, and so do their rules' functions
abbrev pub on_lookup : (ℕ → ℕ → LookupResult → Type 0) → After lookup.ended
on_lookup P κs (state, (command, _)) r e = P state command r

abbrev pub on_outcomes : (ℕ → ℕ → ℕ → Type 0) → After outcomes.ended
on_outcomes P κs (state, (command, _)) w e = P state command w

abbrev pub on_report : (List ℕ → List ℕ → List ℕ → ℕ → List ℕ → Type 0) → After report.ended
on_report P κs (book, (run, (out, _))) r (_, (_, (out', _))) = P book.now run.now out.now r out'.now

-- what a command does to a set, of the device that is lent, by an implementation of `Outcomes`: its type, for each lifetime of what it borrows; the device
-- that a value of it lends; its functions
pub record Implementation : Type 2 where
  pub type : Lft → RattleType
  pub ghosts : (κ : Lft) → outcomes_lent.Ghosts (type κ).Denot
  pub dict : Dict

-- the two there are: by the device's table, and by a book's moves and their index
abbrev pub by_table : Implementation
by_table = record { type = λ κ. tabled_row.the_row (record { mir = erased; lft = κ }); ghosts = λ κ. tabled_impl.ghosts; dict = tabled_impl.dict }

abbrev pub by_moves : Implementation
by_moves = record { type = λ κ. moved_row.the_row (record { mir = erased; lft = κ }); ghosts = λ κ. moved_impl.ghosts; dict = moved_impl.dict }

module _ (I : Implementation) (κ : Lft) where
  abbrev pub visit_ended : Ended
  visit_ended = visit.ended (I.type κ) (I.ghosts κ) I.dict

  abbrev pub sent_ended : Ended
  sent_ended = sent.ended (I.type κ) (I.ghosts κ) I.dict

  abbrev pub on_visit : (Device → ℕ → ℕ → Visited → Type 0) → After visit_ended
  on_visit P κs (self, (device, (command, _))) r e = P ((I.ghosts κ).device device.now) command self.mask r

  abbrev pub on_sent : (Device → ℕ → ℕ → Option StateSet → Type 0) → After sent_ended
  on_sent P κs (self, (device, (command, _))) r e = P ((I.ghosts κ).device device.now) command self.mask r

  -- the loan of the device lasts no longer than what the device borrows
  abbrev pub held : Lfts 2 → Type 0
  held κs = lft_at 2 1 tt κs ⊑ (I.type κ).lives

-- ---- the round trips: of one call, whatever the other was given

-- n, m, count, every entry below n × m, every slot below the count, every weight below m: 02: "Demand 2's round trips take the weights in"
pub record GivenBack (n m items : ℕ) (l : Lent) (r : Reading) (l' : Lent) : Type 0 where
  pub result : r ≡ record { code = 0; place = 0; n = n; m = m; items = items }
  pub entries : (i : ℕ) → i < n * m → get_or l'.table i 0 ≡ get_or l.table i 0
  pub slots_same : take (34 * items) l'.slots ≡ take (34 * items) l.slots
  pub weights_same : take m l'.weights ≡ take m l.weights

-- "writing allowed tables and items and reading them gives those back", with 02 the weights too: the book is what some writing, with code 0, wrote
abbrev pub ReadBack : Read
ReadBack book l r l' =
    (n m items : ℕ) (given : Lent) (out : List ℕ) (w : Writing) (out' : List ℕ) → Writes n m items given out w out' → w.code ≡ 0
    → book ≡ take w.length out' → LongEnough (sizes l) → GivenBack n m items given r l'

-- "Reading a well-formed book and writing it gives the same bytes": the n, m, count, table, slots and weights are those that some reading, with
-- code 0, left
abbrev pub WriteBack : Write
WriteBack n m items l out r out' =
    (book : List ℕ) (given : Lent) → Reads book given (record { code = 0; place = 0; n = n; m = m; items = items }) l → 31178 ≤ length out
    → BookWritten book out r out'

-- ---- the claims

-- reading answers 0 exactly on the bytes of some allowed book, in buffers that are long enough
abbrev pub ReadsZero : Read
ReadsZero book l r l' = (r.code ≡ 0) ↔ (LongEnough (sizes l) × WellFormed book)

pub record ReadClaims (ρ : Compiled) : Type 2 where
  -- 01: "Reading fills a table .. and slots .."; 02: "Reading also gives 32 weights"; codes 1 to 7 and 13 in their order, and what each leaves behind
  pub says : Always read.ended ρ (on_read Reads)
  pub zero : Always read.ended ρ (on_read ReadsZero)
  pub given_back : Always read.ended ρ (on_read ReadBack)

-- checking answers 0 exactly where the bytes keep the rules and every item is, by trajectories, a conditional reverse plan that is also effective
abbrev pub ChecksZero : Check
ChecksZero book l r l' = (r.code ≡ 0) ↔ (LongEnough (sizes l) × ((b : Book) × AcceptedBook book b))

-- and `code` exactly where they keep the rules and `why` is the reason of the first item that is not accepted: only there, and always there, at the
-- place of that item's record, with the units that 02 counts up to there
pub record ChecksWrong (code : ℕ) (why : Reason) (book : List ℕ) (l : Lent) (r : Checking) (l' : Lent) : Type 0 where
  pub only : r.code ≡ code → LongEnough (sizes l) × ((b : Book) × AllowedBook b × (bytes_of b ≡ book) × ((i : ℕ) × WrongFor b i why))
  pub always : LongEnough (sizes l) → (b : Book) → AllowedBook b → bytes_of b ≡ book → (i : ℕ) → WrongFor b i why
      → (units : ℕ) × UnitsMade b i why units × (r ≡ with_units (refusal code (place_of b i)) units)

-- 02: "The check carries the count that it made: equal to the forecast on acceptance, at most the forecast on 8 or 12, 0 on any other refusal."; the
-- forecast is whatever the call gives for the same book and any i, with code 0
pub record UnitsForeseen (book : List ℕ) (l : Lent) (r : Checking) (l' : Lent) : Type 0 where
  pub equal : r.code ≡ 0 → (i : ℕ) (q : Forecasted) → Forecasts book i q → q.code ≡ 0 → r.units ≡ q.units
  pub at_most : (i : ℕ) (q : Forecasted) → Forecasts book i q → q.code ≡ 0 → r.units ≤ q.units
  pub none : (r.code ≡ 0 → ⊥) → (r.code ≡ 8 → ⊥) → (r.code ≡ 12 → ⊥) → r.units ≡ 0

pub record CheckClaims (ρ : Compiled) : Type 2 where
  -- 01: "checking a book is reading and 8"; with 02, 8 or 12, and the units made
  pub says : Always check.ended ρ (on_check Checks)
  pub zero : Always check.ended ρ (on_check ChecksZero)
  pub eight : Always check.ended ρ (on_check (ChecksWrong 8 NoReversePlan))
  pub twelve : Always check.ended ρ (on_check (ChecksWrong 12 NotEffective))
  pub units_foreseen : Always check.ended ρ (on_check UnitsForeseen)

-- with a table as the only buffer, 0 exactly where it is long enough and the book is accepted
abbrev pub TableZero : CheckTable
TableZero book table r table' = (r.code ≡ 0) ↔ ((2048 ≤ length table) × ((b : Book) × AcceptedBook book b))

-- 02: "read as by checking": whatever checking gives for the same book and table, in slots and weights that are long enough, but for the item count and
-- the units. This follows from the first claim, since there is one answer only.
abbrev pub AsChecking : CheckTable
AsChecking book table r table' =
    (slots weights : List ℕ) (c : Checking) (l' : Lent) → Checks book (lent table slots weights) c l' → 2176 ≤ length slots → 32 ≤ length weights
    → (r ≡ answer_of c) × (table' ≡ l'.table)

-- checking with a table as the only buffer
pub record CheckTableClaims (ρ : Compiled) : Type 2 where
  -- 1 straight away and the book's codes with the table untouched; 8 and 12, and 0, with the table read
  pub says : Always check-table.ended ρ (on_check_table TableChecks)
  pub zero : Always check-table.ended ρ (on_check_table TableZero)
  pub as_checking : Always check-table.ended ρ (on_check_table AsChecking)

-- the same of the call with a `Result`, on which 02's calls that take a book and a table stand: what finding goes through
pub record CheckInTableClaims (ρ : Compiled) : Type 2 where
  pub says : Always check-in-table.ended ρ (on_check_in_table TableChecks)
  pub zero : Always check-in-table.ended ρ (on_check_in_table TableZero)
  pub as_checking : Always check-in-table.ended ρ (on_check_in_table AsChecking)

-- the forecast answers 0 exactly on the bytes of some allowed book and at most 32 commands
abbrev pub ForecastsZero : Forecast
ForecastsZero book i r = (r.code ≡ 0) ↔ (WellFormed book × (i ≤ 32))

-- it lends no buffer and judges no item; 02: "The forecast never exceeds 65,536."
pub record ForecastNumbers (book : List ℕ) (i : ℕ) (r : Forecasted) : Type 0 where
  pub never : (r.code ≡ 1 → ⊥) × (r.code ≡ 8 → ⊥) × (r.code ≡ 12 → ⊥)
  pub zeros : (r.code ≡ 0 → ⊥) → (r.units ≡ 0) × (r.plan_bytes ≡ 0) × (r.legs ≡ 0)
  pub at_most : r.units ≤ 65536

-- 02: "plan bytes and legs that no run of i commands exceeds": every chain of the book's items that fits any run of i commands
abbrev pub NoneExceeds : Forecast
NoneExceeds book i r =
    r.code ≡ 0 → (b : Book) → AllowedBook b → bytes_of b ≡ book → (u : Run) → last u ≡ i → (xs : List ℕ) → Chain (device_of b) u (items_for b) (last u) xs
    → (length (plan_of (items_for b) xs) ≤ r.plan_bytes) × (length xs ≤ r.legs)

pub record ForecastClaims (ρ : Compiled) : Type 2 where
  -- 02: "A forecast gives, for any well-formed book, with no buffer lent and no command applied, .."; reading's codes, then 9
  pub says : Always forecast.ended ρ (on_forecast Forecasts)
  pub zero : Always forecast.ended ρ (on_forecast ForecastsZero)
  pub numbers : Always forecast.ended ρ (on_forecast ForecastNumbers)
  pub none_exceeds : Always forecast.ended ρ (on_forecast NoneExceeds)

-- finding answers 0 exactly where the table is long enough, the book is accepted and some reverse of at most 3 commands makes an accepted item
abbrev pub FindsZero : Find
FindsZero book q table r table' =
    (r.code ≡ 0) ↔ ((2048 ≤ length table) × ((b : Book) × AcceptedBook book b × ((cs : List ℕ) × Makes (device_of b) q cs)))

-- 14 exactly where, after the book's own codes, no item may hold the forward commands and masks
abbrev pub FindsBarred : Find
FindsBarred book q table r table' = (r.code ≡ 14) ↔ ((2048 ≤ length table) × ((b : Book) × AcceptedBook book b × (MayHold (device_of b) q → ⊥)))

-- 02: "It is refused with 15 exactly when no other refusal is due and no reverse up to that length does so."
abbrev pub FindsNone : Find
FindsNone book q table r table' =
    (r.code ≡ 15)
    ↔ ((2048 ≤ length table) × ((b : Book) × AcceptedBook book b × MayHold (device_of b) q × ((cs : List ℕ) → Makes (device_of b) q cs → ⊥)))

-- 02: "the shortest, and among equals the one with lower commands first", of the commands answered; "commands unused in the answer are 0", and so on a
-- refusal
pub record FoundCommands (book : List ℕ) (q : Sought) (table : List ℕ) (r : Found) (table' : List ℕ) : Type 0 where
  pub at_most : r.count ≤ 3
  pub first : r.code ≡ 0 → (b : Book) → AcceptedBook book b → FirstOf (device_of b) q (take r.count r.commands)
  pub unused : (i : ℕ) → r.count ≤ i → get_or r.commands i 0 ≡ 0
  pub refused : (r.code ≡ 0 → ⊥) → r.count ≡ 0

-- 02: "The only buffer is a table, read as by checking, on 14 and 15 too": whatever checking gives for the same book and table, in slots and weights that
-- are long enough; what it refuses is refused so
abbrev pub FoundAsChecking : Find
FoundAsChecking book q table r table' =
    (slots weights : List ℕ) (c : Checking) (l' : Lent) → Checks book (lent table slots weights) c l' → 2176 ≤ length slots → 32 ≤ length weights
    → (table' ≡ l'.table) × ((c.code ≡ 0 → ⊥) → r ≡ not_found c.code c.place)

-- b with one item more, behind its others
abbrev pub with_item : Book → Item → Book
with_item b x = record { n = b.n; m = b.m; weights = b.weights; moves = b.moves; items = items_of b ++ x ∷ [] }

-- the item that is made, put behind the book's items where these are fewer than 64, gives an accepted book. This follows from the claims.
abbrev pub FoundJoins : Find
FoundJoins book q table r table' =
    r.code ≡ 0 → (b : Book) → AcceptedBook book b → length (items_of b) < 64
    → let x = item_of q (take r.count r.commands) in AcceptedBook (book ++ frame (item_rec x)) (with_item b x)

pub record FindClaims (ρ : Compiled) : Type 2 where
  -- 02: "Given a book, forward commands, phi and psi, find a reverse of at most 3 commands that makes an accepted item": 1, the book's codes, 8 and 12, 14
  -- and 15 in their order, and the table
  pub says : Always find.ended ρ (on_find Finds)
  pub zero : Always find.ended ρ (on_find FindsZero)
  pub fourteen : Always find.ended ρ (on_find FindsBarred)
  pub fifteen : Always find.ended ρ (on_find FindsNone)
  pub commands : Always find.ended ρ (on_find FoundCommands)
  pub as_checking : Always find.ended ρ (on_find FoundAsChecking)

-- writing answers 0 exactly where the buffers are long enough and table, slots and weights hold an allowed book
abbrev pub WritesZero : Write
WritesZero n m items l out r out' = (r.code ≡ 0) ↔ (LongEnough (buffers l out) × ((b : Book) × AllowedBook b × Holds n m items l b))

-- what it writes is well-formed, and no longer than any well-formed book
abbrev pub WellWritten : Write
WellWritten n m items l out r out' = r.code ≡ 0 → WellFormed (take r.length out') × (r.length ≤ 31178)

pub record WriteClaims (ρ : Compiled) : Type 2 where
  -- 01: "Writing takes n, m, an item count .."; its refusals in their order, and what the output holds then
  pub says : Always write.ended ρ (on_write Writes)
  pub zero : Always write.ended ρ (on_write WritesZero)
  pub well_formed : Always write.ended ρ (on_write WellWritten)
  pub same_bytes : Always write.ended ρ (on_write WriteBack)

-- demand 3: "Nobody who sends the whole plan from where a history stands last can get stuck or end anywhere but where that history began": of the bytes in
-- the lent plan. This follows from demand 3 whole, which the claims have.
abbrev pub PlanUndoes : {E : Type 0} → Assemble E
PlanUndoes ask l r l' = r.code ≡ 0 → (b : Book) (u : Run) → Given ask b u → Undoes (device_of b) u (take r.commands l'.room.plan)

abbrev pub SmallUndoes : Small
SmallUndoes ask scratch room r scratch' room' =
    r.code ≡ 0 → (b : Book) (u : Run) → Given ask b u → Undoes (device_of b) u (take r.commands room'.plan)

pub record AssembleClaims (ρ : Compiled) : Type 2 where
  -- every code of 01's table, and 02's 12 and 13, in their order, with every buffer as stated for it
  pub says : Always assemble.ended ρ (on_assemble (Assembles in_bytes))
  -- demand 3, whole
  pub demand_three : Always assemble.ended ρ (on_assemble (Demand in_bytes))

-- with leg structs: the same of the structs
pub record LegsClaims (ρ : Compiled) : Type 2 where
  pub says : Always assemble-legs.ended ρ (on_legs (Assembles in_structs))
  pub demand_three : Always assemble-legs.ended ρ (on_legs (Demand in_structs))

-- with a scratch of 64 masks in place of table, slots and weights
pub record SmallClaims (ρ : Compiled) : Type 2 where
  -- 02: "the scratch ends free, but untouched on 1", and assembling's codes in their order
  pub says : Always assemble-small.ended ρ (on_small AssemblesSmall)
  pub demand_three : Always assemble-small.ended ρ (on_small SmallDemand)

-- 02: "With buffers of the stated lengths, plan and legs lent alike, result, plan and legs equal the first form's for every book and run": of the two
-- routines, ρ of the first form and σ of the small one. What both answer is one function of the book and the run, and what they leave one of these and of
-- plan and legs as they are lent.
pub record EqualForms (ρ σ : Compiled) : Type 2 where
  pub result : Asked → Assembly
  -- plan and legs at exit
  pub left : Asked → Room ℕ → Room ℕ
  pub first :
      Always assemble.ended ρ (on_assemble (λ ask l r l'. LongEnough (all_sizes in_bytes l)
      → (r ≡ result ask) × (l'.room ≡ left ask l.room)))
  pub small :
      Always assemble-small.ended σ (on_small (λ ask scratch room r scratch' room'. LongEnough (small_sizes scratch room)
      → (r ≡ result ask) × (room' ≡ left ask room)))

-- on a page that is long enough, result and buffers are assembling's: whatever it gives for the same book, run and buffers. This follows from the first
-- claim, since assembling has one answer only.
abbrev pub AsAssembling : LayOut
AsAssembling ask l page r l' page' =
    LongEnough (page_sizes page) → (q : Assembly) (l'' : AllLent ℕ) → Assembles in_bytes ask l q l'' → (r.assembly ≡ q) × (l' ≡ l'')

-- on paper
pub record PaperClaims (ρ : Compiled) : Type 2 where
  -- 02: "The call takes and fills what assembling does, and a page buffer ..": the page's layout, and what each refusal leaves behind
  pub says : Always lay-out.ended ρ (on_lay_out Pages)
  pub as_assembling : Always lay-out.ended ρ (on_lay_out AsAssembling)
  -- 02: "The commands, taken down the page, are the plan."
  pub taken_down : Always lay-out.ended ρ (on_lay_out (λ ask l page r l' page'. TakenDown r l' page'))
  -- demand 3, by assembling's
  pub demand_three : Always lay-out.ended ρ (on_lay_out PageDemand)

-- of each device's lookup
pub record LookupClaims (d : DeviceRule) (ρ : Compiled) : Type 2 where
  -- 01: "A lookup with state over 63 or command over 15 returns 5, 0 and mask 0; else 0, 0 and the mask"; 02: "refusing as the ridge lookup does"
  pub says : Always lookup.ended ρ (on_lookup (Looked d))

-- of each rule's function, whose masks the generator prints: the outcomes, for any numbers
pub record RuleClaims (d : DeviceRule) (ρ : Compiled) : Type 2 where
  pub says : Always outcomes.ended ρ (on_outcomes (OutcomesOf d))

-- of each device's constant table
pub record ConstantTable (d : DeviceRule) (not-empty : ℕ) (table : List ℕ) : Type 0 where
  pub equals_rule : EqualsRule d not-empty table
  -- 02: "its output must be the constant tables": the generator prints for each entry a mask of the outcomes of state entry / m, command entry % m
  pub generated : (entry w : ℕ) → entry < d.n * d.m → OutcomesOf d (entry / d.m) (entry % d.m) w → get_or table entry 0 ≡ w

-- 01: "The constant table of 1,024 masks equals this rule; 616 aren't empty."
abbrev pub RidgeTable : Compiled → Type 2
RidgeTable ρ = Always ridge-table.ended ρ (λ κs a r e. ConstantTable ridge 616 r)

-- 02: "its constant table of 384 masks", none of them empty
abbrev pub PortableTable : Compiled → Type 2
PortableTable ρ = Always portable-table.ended ρ (λ κs a r e. ConstantTable portable 384 r)

-- the same tables, lent: the entries that the lookups read
abbrev pub RidgeEntries : Compiled → Type 2
RidgeEntries ρ = Always ridge-entries.ended ρ (λ κs a r e. ConstantTable ridge 616 r.now)

abbrev pub PortableEntries : Compiled → Type 2
PortableEntries ρ = Always portable-entries.ended ρ (λ κs a r e. ConstantTable portable 384 r.now)

-- 02, request 4: a command visits the states present alone, lowest first; one that is sent to a set goes no further than the first that is stuck; of the
-- device that is lent, however its outcomes are looked up
pub record VisitClaims (I : Implementation) (ρ σ : Lft → Compiled) : Type 2 where
  pub visits : (κ : Lft) → AlwaysHeld (visit_ended I κ) (held I κ) (ρ κ) (on_visit I κ (λ d c w r. d.n ≤ 64 → d.m ≤ 32 → VisitsPresent d c w r))
  pub sends : (κ : Lft) → AlwaysHeld (sent_ended I κ) (held I κ) (σ κ) (on_sent I κ (λ d c w r. d.n ≤ 64 → d.m ≤ 32 → SendsToPresent d c w r))

-- the program's text
pub record ReportClaims (ρ : Compiled) : Type 2 where
  -- 01: "The program `rollback` judges at most the first 31,111 bytes of book.bin and 302 of run.bin", with 02 31,179; its two lines, in the lent row
  pub says : Always report.ended ρ (on_report Reports)
