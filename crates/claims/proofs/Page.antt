-- The claims. First the meaning, on values; then the public calls as compiled: what holds after every call, whatever it is passed; then that what 01
-- says leaves one answer only, and the worked cases.
use mathlib.Core.Path.{◌≡◌, refl, subst}
use mathlib.Core.Logic.{◌⊎◌, ◌↔◌}
use mathlib.Core.List.{List, [], ◌∷◌}
use Prim.Native.Nat.{ℕ, ◌+◌, ◌-◌, ◌*◌, ◌/◌, ◌%◌, ◌^◌, ◌≤◌, ◌<◌, zero-le}
use native.Mathlib.Omega.{arith}
use lib.Count.{count_trailing_zeros}
use lib.Dec.{T}
use lib.ListN.{length, get_or, take, drop}
use Rattle.base.specs.Sets.{In, NoBitFrom}
use Rattle.base.specs.Sizes.{LongEnough}
use Rattle.base.specs.Lists.{Each, Bytes}
use Rattle.base.specs.Present.{LowestState}
use Rattle.base.proofs.Trailing.{trailing_zeros_lowest}
use Rattle.base.specs.Tables.{every, by_rule}
use Rattle.reversal.specs.Device.{Device, Proper, tabled}
use Rattle.reversal.specs.Reversal.{Item, Executable, EndsIn, Reverses, Effective, Accepted, NeverUsed, Returns}
use Rattle.reversal.specs.Runs.{Run, AllowedRun, last, History, Possible}
use Rattle.reversal.specs.Chains.{Fits, item, Chain, plan_of, cost, Undoes}
use Rattle.reversal.specs.Answers.{Allowed, Answer, Answers, Numbers}
use Rattle.reversal.specs.Twelve.{Twelve}
use Rattle.reversal.specs.Weighted.{Weighted}
use Rattle.reversal.specs.WorkedUnits.{WorkedUnits}
use Rattle.reversal.specs.Slips.{Slips}
use Rattle.reversal.specs.Longest.{Longest}
use Rattle.reversal.specs.Computed.Sets.{accepts}
use Rattle.reversal.specs.Computed.Beliefs.{belief}
use Rattle.reversal.specs.Computed.Assembly.{fits, numbers, answer}
use Rattle.reversal.proofs.Paths.{returns↔}
use Rattle.reversal.proofs.Reversals.{tabled_proper, accepts↔}
use Rattle.reversal.proofs.Effective.{not-both}
use Rattle.reversal.proofs.Histories.{possible↔, percept-states}
use Rattle.reversal.proofs.Fitting.{fits↔, fits_possible}
use Rattle.reversal.proofs.EndToEnd.{chain-undoes, never-fits}
use Rattle.reversal.proofs.Assembling.{cost-most, numbers-right, answer-right}
use Rattle.reversal.proofs.OneAnswer.{answers_unique}
use Rattle.reversal.proofs.Sizes.{worked_units}
use Rattle.reversal.proofs.Cases.{twelve, weighted}
use base.Fml.{Lft}
use denote.Param.{bounded}
use mir.Syntax.{Args, Callee, erased, a_type, dcons, dnil}
use prog.Wired.{Code, Codes, node, and, end}
use Rattle.moves.specs.Moves.{moved}
use Rattle.states.specs.declared.device.Tabled.{Tabled}
use Rattle.states.specs.declared.device.Moved.{Moved}
use Rattle.states.proofs.device.Tabled.TheLaws as tabled_laws
use Rattle.states.proofs.device.TabledOutcomes.TheImpl.Met as table_met
use Rattle.states.proofs.device.TabledOutcomes.n.Symbol as table_n_symbol
use Rattle.states.proofs.device.TabledOutcomes.m.Symbol as table_m_symbol
use Rattle.states.proofs.device.TabledOutcomes.outcomes_at.Symbol as table_outcomes_symbol
use Rattle.states.proofs.device.Moved.TheLaws as moved_laws
use Rattle.states.proofs.device.MovedOutcomes.TheImpl.Met as moves_met
use Rattle.states.proofs.device.MovedOutcomes.n.Symbol as moves_n_symbol
use Rattle.states.proofs.device.MovedOutcomes.m.Symbol as moves_m_symbol
use Rattle.states.proofs.device.MovedOutcomes.outcomes_at.Symbol as moves_outcomes_symbol
use Rattle.states.proofs.StateSet.visit.Symbol as visit_routine_symbol
use Rattle.states.proofs.StateSet.visit.Met.{met as visit-met}
use Rattle.states.proofs.StateSet.sent.Symbol as sent_routine_symbol
use Rattle.states.proofs.StateSet.sent.Met.{met as sent-met}
use Rattle.book.specs.Book.{Book, device_of, AllowedBook, bytes_of, WellFormed, items_of}
use Rattle.reversal.proofs.Slips.{slips}
use Rattle.reversal.proofs.Longest.{longest as longest-case}
use Rattle.book.specs.Lent.{Lent, sizes}
use Rattle.book.specs.Example.{bytes_q}
use Rattle.book.specs.Example as book-example
use Rattle.book.proofs.Example as book-cases
use Rattle.book.specs.Further as book-further
use Rattle.book.proofs.Further as book-further-cases
use Rattle.book.specs.Edges as book-edges
use Rattle.book.proofs.Edges as book-edge-cases
use Rattle.book.proofs.Largest.{length-book, largest-book}
use Rattle.reader.specs.declared.Reading.{Reading}
use Rattle.reader.specs.Reads.{Reads}
use Rattle.reader.specs.Cases.{QRead}
use Rattle.reader.proofs.Unique.{reads_unique}
use Rattle.reader.proofs.Cases.{q_read}
use Rattle.reader.specs.Edges as read-edges
use Rattle.reader.proofs.Edges as read-edge-cases
use Rattle.reader.specs.contracts.read as read
use Rattle.reader.proofs.read.Symbol as read_routine_symbol
use Rattle.reader.proofs.read.Met.{met as read-met}
use Rattle.checker.specs.declared.Checking.{Checking}
use Rattle.checker.specs.declared.Reason.TheVariants.{NotEffective}
use Rattle.checker.specs.Checks.{AcceptedBook, WrongFor, Checks}
use Rattle.checker.specs.Cases.{QChecked, TablesChecked}
use Rattle.checker.specs.declared.TableChecking.{TableChecking}
use Rattle.checker.specs.TableChecks.{TableChecks}
use Rattle.checker.proofs.Unique.{checks_unique}
use Rattle.checker.proofs.TableChecks.{table_checks_unique}
use Rattle.checker.proofs.Cases.{q_checked, tables_checked}
use Rattle.checker.specs.Edges as check-edges
use Rattle.checker.proofs.Edges as check-edge-cases
use Rattle.checker.specs.contracts.check as check
use Rattle.checker.proofs.check.Symbol as check_routine_symbol
use Rattle.checker.proofs.check.Met.{met as check-met}
use Rattle.checker.specs.contracts.check_table as check-table
use Rattle.checker.proofs.check_table.Symbol as check_table_routine_symbol
use Rattle.checker.proofs.check_table.Met.{met as check-table-met}
use Rattle.checker.specs.contracts.check_in_table as check-in-table
use Rattle.checker.proofs.check_in_table.Symbol as check_in_table_routine_symbol
use Rattle.checker.proofs.check_in_table.Met.{met as check-in-table-met}
use Rattle.forecast.specs.declared.Forecasted.{Forecasted}
use Rattle.forecast.specs.Forecasts.{Forecasts}
use Rattle.forecast.specs.Cases.{QForecast}
use Rattle.forecast.proofs.Unique.{forecasts_unique}
use Rattle.forecast.proofs.Bounds.{units_reached}
use Rattle.forecast.proofs.Cases.{q_forecast}
use Rattle.forecast.specs.contracts.forecast as forecast
use Rattle.forecast.proofs.forecast.Symbol as forecast_routine_symbol
use Rattle.forecast.proofs.forecast.Met.{met as forecast-met}
use Rattle.finder.specs.declared.Found.{Found}
use Rattle.finder.specs.Finds.{Sought, sought, FirstOf, MayHold, Finds}
use Rattle.finder.specs.Cases.{RingFound, QFound}
use Rattle.finder.proofs.Unique.{first_unique, finds_unique}
use Rattle.finder.proofs.Cases.{ring_found, q_found}
use Rattle.finder.specs.contracts.find as find
use Rattle.finder.proofs.find.Symbol as find_routine_symbol
use Rattle.finder.proofs.find.Met.{met as find-met}
use Rattle.writer.specs.declared.Writing.{Writing}
use Rattle.writer.specs.Writes.{Writes}
use Rattle.writer.specs.Cases as write-example
use Rattle.writer.proofs.Exactly.{writes_unique}
use Rattle.writer.proofs.Cases as write-cases
use Rattle.writer.specs.Edges as write-edges
use Rattle.writer.proofs.Edges as write-edge-cases
use Rattle.writer.specs.contracts.write as write
use Rattle.writer.proofs.write.Symbol as write_routine_symbol
use Rattle.writer.proofs.write.Met.{met as write-met}
use Rattle.runs.specs.RunBytes.{run_bytes}
use Rattle.runs.specs.Example as run-example
use Rattle.runs.proofs.Example as run-cases
use Rattle.assembly.specs.Asked.{Asked}
use Rattle.runs.specs.Edges as run-edges
use Rattle.runs.proofs.Edges as run-edge-cases
use Rattle.assembly.specs.declared.Assembly.{Assembly}
use Rattle.assembly.specs.Lent.{LegForm, in_bytes, Room, AllLent, all_sizes}
use Rattle.assembly.specs.Assembles.{Assembles}
use Rattle.assembly.specs.Demand.{Given, Ready, Demand}
use Rattle.assembly.specs.Cases.{Runs, LegRuns}
use Rattle.assembly.proofs.Unique.{assembles_unique}
use Rattle.assembly.proofs.DemandUnique.{SamePlan, demand_unique}
use Rattle.assembly.proofs.Cases.{runs, leg_runs}
use Rattle.assembly.specs.Small.{small_sizes, AssemblesSmall, SmallDemand}
use Rattle.assembly.specs.Edges.{Edges, SmallEdges}
use Rattle.assembly.proofs.Edges.{edges, small_edges}
use Rattle.assembly.proofs.Small.{small_unique}
use Rattle.assembly.specs.contracts.assemble_small as assemble-small
use Rattle.assembly.proofs.assemble_small.Symbol as assemble_small_routine_symbol
use Rattle.assembly.proofs.assemble_small.Met.{met as assemble-small-met}
use Rattle.assembly.specs.contracts.assemble as assemble
use Rattle.assembly.proofs.assemble.Symbol as assemble_routine_symbol
use Rattle.assembly.proofs.assemble.Met.{met as assemble-met}
use Rattle.lookups.specs.declared.LookupResult.{LookupResult}
use Rattle.lookups.specs.Rules.{DeviceRule, OutcomesOf, WorksOut, LeadsInside}
use Rattle.lookups.specs.Lookup.{filled, empty_in, EqualsRule, Looked}
use Rattle.lookups.proofs.Tables.{rule_to_table, table_unique}
use Rattle.lookups.proofs.Exactly.{looked_unique}
use Rattle.ridge_rule.specs.Ridge.{ridge}
use Rattle.ridge_rule.specs.Figures as ridge-example
use Rattle.ridge_rule.proofs.Rules.{rule_mask_lem as ridge-mask, works_out as ridge-works-out, leads_inside as ridge-leads-inside}
use Rattle.ridge_rule.proofs.Figures as ridge-cases
use Rattle.ridge.proofs.lookup.Symbol as ridge_lookup_routine_symbol
use Rattle.ridge.proofs.lookup.Met.{met as ridge-lookup-met}
use Rattle.ridge_rule.proofs.outcomes.Symbol as ridge_outcomes_routine_symbol
use Rattle.ridge_rule.proofs.outcomes.Met.{met as ridge-outcomes-met}
use Rattle.ridge.proofs.table.Symbol as ridge_table_routine_symbol
use Rattle.ridge.proofs.table.Met.{met as ridge-table-met}
use Rattle.ridge.proofs.entries.Symbol as ridge_entries_routine_symbol
use Rattle.ridge.proofs.entries.Met.{met as ridge-entries-met}
use Rattle.portable_rule.specs.Portable.{portable}
use Rattle.portable_rule.specs.Figures as portable-example
use Rattle.portable_rule.proofs.Rules.{rule_mask_lem as portable-mask, works_out as portable-works-out, leads_inside as portable-leads-inside}
use Rattle.portable_rule.proofs.Figures as portable-cases
use Rattle.portable.proofs.lookup.Symbol as portable_lookup_routine_symbol
use Rattle.portable.proofs.lookup.Met.{met as portable-lookup-met}
use Rattle.portable_rule.proofs.outcomes.Symbol as portable_outcomes_routine_symbol
use Rattle.portable_rule.proofs.outcomes.Met.{met as portable-outcomes-met}
use Rattle.portable.proofs.table.Symbol as portable_table_routine_symbol
use Rattle.portable.proofs.table.Met.{met as portable-table-met}
use Rattle.portable.proofs.entries.Symbol as portable_entries_routine_symbol
use Rattle.portable.proofs.entries.Met.{met as portable-entries-met}
use Rattle.paper.specs.declared.Paged.{Paged}
use Rattle.paper.specs.Taken.{commands_on, down}
use Rattle.paper.specs.Pages.{page_sizes, lines_on, Pages, PageDemand, TakenDown}
use Rattle.paper.specs.Cases.{Lines, PageRuns}
use Rattle.paper.proofs.Unique.{pages_unique}
use Rattle.paper.proofs.Cases.{lines, page_runs}
use Rattle.paper.specs.Edges as paper-edges
use Rattle.paper.proofs.Edges as paper-edge-cases
use Rattle.paper.specs.contracts.lay_out as lay-out
use Rattle.paper.proofs.lay_out.Symbol as lay_out_routine_symbol
use Rattle.paper.proofs.lay_out.Met.{met as lay-out-met}
use Rattle.planner.specs.Structs.{in_structs}
use Rattle.planner.specs.Cases.{StructRuns}
use Rattle.planner.proofs.Cases.{struct_runs, struct_edges}
use Rattle.planner.proofs.rollback_read.Symbol as exported_read_routine_symbol
use Rattle.planner.proofs.rollback_read.Met.{met as exported-read-met}
use Rattle.planner.proofs.rollback_check.Symbol as exported_check_routine_symbol
use Rattle.planner.proofs.rollback_check.Met.{met as exported-check-met}
use Rattle.planner.proofs.rollback_forecast.Symbol as exported_forecast_routine_symbol
use Rattle.planner.proofs.rollback_forecast.Met.{met as exported-forecast-met}
use Rattle.planner.proofs.rollback_find.Symbol as exported_find_routine_symbol
use Rattle.planner.proofs.rollback_find.Met.{met as exported-find-met}
use Rattle.planner.proofs.rollback_write.Symbol as exported_write_routine_symbol
use Rattle.planner.proofs.rollback_write.Met.{met as exported-write-met}
use Rattle.planner.proofs.rollback_assemble.Symbol as exported_assemble_routine_symbol
use Rattle.planner.proofs.rollback_assemble.Met.{met as exported-assemble-met}
use Rattle.planner.proofs.rollback_assemble_small.Symbol as exported_small_routine_symbol
use Rattle.planner.proofs.rollback_assemble_small.Met.{met as exported-small-met}
use Rattle.planner.specs.contracts.rollback_assemble_legs as assemble-legs
use Rattle.planner.proofs.rollback_assemble_legs.Symbol as assemble_legs_routine_symbol
use Rattle.planner.proofs.rollback_assemble_legs.Met.{met as assemble-legs-met}
use Rattle.planner.proofs.rollback_page.Symbol as exported_page_routine_symbol
use Rattle.planner.proofs.rollback_page.Met.{met as exported-page-met}
use Rattle.planner.proofs.rollback_ridge.Symbol as exported_ridge_routine_symbol
use Rattle.planner.proofs.rollback_ridge.Met.{met as exported-ridge-met}
use Rattle.planner.proofs.rollback_portable.Symbol as exported_portable_routine_symbol
use Rattle.planner.proofs.rollback_portable.Met.{met as exported-portable-met}
use Rattle.report.specs.Prints.{Prints, Reports}
use Rattle.report.specs.Example.{Examples}
use Rattle.report.proofs.Exactly.{prints-first}
use Rattle.report.proofs.Unique.{prints_unique}
use Rattle.report.proofs.Cases.{examples}
use Rattle.report.specs.Edges as report-edges
use Rattle.report.proofs.Edges as report-edge-cases
use Rattle.report.proofs.report.Symbol as report_routine_symbol
use Rattle.report.proofs.report.Met.{met as report-met}
use Rattle.claims.specs.Claims.{Implementation, by_table, by_moves, on_read, on_check, on_check_table, on_check_in_table, on_forecast, on_find, on_write, on_assemble, on_small, on_legs, on_lay_out, ReadClaims, UnitsForeseen, CheckClaims, CheckTableClaims, CheckInTableClaims, ForecastNumbers, ForecastClaims, FoundJoins, FindClaims, WriteClaims, PlanUndoes, SmallUndoes, AssembleClaims, SmallClaims, EqualForms, LegsClaims, PaperClaims, LookupClaims, RuleClaims, ConstantTable, RidgeTable, PortableTable, RidgeEntries, PortableEntries, VisitClaims, ReportClaims}
use Rattle.claims.specs.Always.{Compiled, Always}
use Rattle.claims.specs.Worked.{ChecksWorked, TableWorked, ForecastsWorked, FindsWorked, AssemblesWorked, SmallWorked, PaperWorked, ReadsWorked, WritesWorked}
use Rattle.claims.proofs.Foreseen as foreseen
use Rattle.claims.proofs.Follows as follows
use Rattle.claims.proofs.Calls.{read_claims, check_claims, forecast_claims, find_claims, write_claims, assemble_claims, small_claims, equal_claims, legs_claims, paper_claims, lookup_claims, rule_claims, ridge_table_claims, portable_table_claims, ridge_entries_claims, portable_entries_claims, report_claims, check_worked, forecast_worked, find_worked, assemble_worked, small_worked, legs_worked, paper_worked, check_table_claims, check_in_table_claims, table_worked, in_table_worked, visit_claims, read_worked, write_worked}

-- ---- the compiled code of the calls

-- a generic function at an implementation: its name there, and its code with that of the implementation's functions
abbrev at_implementation : Implementation → Lft → (Args → Callee) → Code → Codes → Compiled
at_implementation I κ name code given =
    record { name = name (bounded (a_type ∷ []) (I.type κ, tt) (dcons I.dict dnil)); code = node [] [] (and code given) }

abbrev table_functions : Codes
table_functions = and table_n_symbol.code (and table_m_symbol.code (and table_outcomes_symbol.code end))

abbrev moves_functions : Codes
moves_functions = and moves_n_symbol.code (and moves_m_symbol.code (and moves_outcomes_symbol.code end))

abbrev visit_by_table : Lft → Compiled
visit_by_table κ = at_implementation by_table κ visit_routine_symbol.name visit_routine_symbol.code table_functions

abbrev sent_by_table : Lft → Compiled
sent_by_table κ = at_implementation by_table κ sent_routine_symbol.name sent_routine_symbol.code table_functions

abbrev visit_by_moves : Lft → Compiled
visit_by_moves κ = at_implementation by_moves κ visit_routine_symbol.name visit_routine_symbol.code moves_functions

abbrev sent_by_moves : Lft → Compiled
sent_by_moves κ = at_implementation by_moves κ sent_routine_symbol.name sent_routine_symbol.code moves_functions

abbrev read_routine : Compiled
read_routine = record { name = read_routine_symbol.name; code = read_routine_symbol.code }

abbrev check_routine : Compiled
check_routine = record { name = check_routine_symbol.name; code = check_routine_symbol.code }

abbrev check_table_routine : Compiled
check_table_routine = record { name = check_table_routine_symbol.name; code = check_table_routine_symbol.code }

abbrev check_in_table_routine : Compiled
check_in_table_routine = record { name = check_in_table_routine_symbol.name; code = check_in_table_routine_symbol.code }

abbrev forecast_routine : Compiled
forecast_routine = record { name = forecast_routine_symbol.name; code = forecast_routine_symbol.code }

abbrev find_routine : Compiled
find_routine = record { name = find_routine_symbol.name; code = find_routine_symbol.code }

abbrev write_routine : Compiled
write_routine = record { name = write_routine_symbol.name; code = write_routine_symbol.code }

abbrev assemble_small_routine : Compiled
assemble_small_routine = record { name = assemble_small_routine_symbol.name; code = assemble_small_routine_symbol.code }

abbrev assemble_routine : Compiled
assemble_routine = record { name = assemble_routine_symbol.name; code = assemble_routine_symbol.code }

abbrev ridge_lookup_routine : Compiled
ridge_lookup_routine = record { name = ridge_lookup_routine_symbol.name; code = ridge_lookup_routine_symbol.code }

abbrev ridge_outcomes_routine : Compiled
ridge_outcomes_routine = record { name = ridge_outcomes_routine_symbol.name; code = ridge_outcomes_routine_symbol.code }

abbrev ridge_table_routine : Compiled
ridge_table_routine = record { name = ridge_table_routine_symbol.name; code = ridge_table_routine_symbol.code }

abbrev ridge_entries_routine : Compiled
ridge_entries_routine = record { name = ridge_entries_routine_symbol.name; code = ridge_entries_routine_symbol.code }

abbrev portable_lookup_routine : Compiled
portable_lookup_routine = record { name = portable_lookup_routine_symbol.name; code = portable_lookup_routine_symbol.code }

abbrev portable_outcomes_routine : Compiled
portable_outcomes_routine = record { name = portable_outcomes_routine_symbol.name; code = portable_outcomes_routine_symbol.code }

abbrev portable_table_routine : Compiled
portable_table_routine = record { name = portable_table_routine_symbol.name; code = portable_table_routine_symbol.code }

abbrev portable_entries_routine : Compiled
portable_entries_routine = record { name = portable_entries_routine_symbol.name; code = portable_entries_routine_symbol.code }

abbrev lay_out_routine : Compiled
lay_out_routine = record { name = lay_out_routine_symbol.name; code = lay_out_routine_symbol.code }

abbrev exported_read_routine : Compiled
exported_read_routine = record { name = exported_read_routine_symbol.name; code = exported_read_routine_symbol.code }

abbrev exported_check_routine : Compiled
exported_check_routine = record { name = exported_check_routine_symbol.name; code = exported_check_routine_symbol.code }

abbrev exported_forecast_routine : Compiled
exported_forecast_routine = record { name = exported_forecast_routine_symbol.name; code = exported_forecast_routine_symbol.code }

abbrev exported_find_routine : Compiled
exported_find_routine = record { name = exported_find_routine_symbol.name; code = exported_find_routine_symbol.code }

abbrev exported_write_routine : Compiled
exported_write_routine = record { name = exported_write_routine_symbol.name; code = exported_write_routine_symbol.code }

abbrev exported_assemble_routine : Compiled
exported_assemble_routine = record { name = exported_assemble_routine_symbol.name; code = exported_assemble_routine_symbol.code }

abbrev exported_small_routine : Compiled
exported_small_routine = record { name = exported_small_routine_symbol.name; code = exported_small_routine_symbol.code }

abbrev assemble_legs_routine : Compiled
assemble_legs_routine = record { name = assemble_legs_routine_symbol.name; code = assemble_legs_routine_symbol.code }

abbrev exported_page_routine : Compiled
exported_page_routine = record { name = exported_page_routine_symbol.name; code = exported_page_routine_symbol.code }

abbrev exported_ridge_routine : Compiled
exported_ridge_routine = record { name = exported_ridge_routine_symbol.name; code = exported_ridge_routine_symbol.code }

abbrev exported_portable_routine : Compiled
exported_portable_routine = record { name = exported_portable_routine_symbol.name; code = exported_portable_routine_symbol.code }

abbrev report_routine : Compiled
report_routine = record { name = report_routine_symbol.name; code = report_routine_symbol.code }

-- ---- the meaning

-- 1. an item is accepted by the check on sets exactly when it is, by trajectories, a conditional reverse plan that is also effective, for every table
-- without a bit at n or above
pub acceptance : (n m : ℕ) (table : List ℕ) → ((s c : ℕ) → s < n → c < m → NoBitFrom n (get_or table (s * m + c) 0))
    → (x : Item) → NoBitFrom n x.psi → T (accepts (tabled n m table) x) ↔ Accepted (tabled n m table) x
acceptance n m table fine x psi = accepts↔ (tabled n m table) (tabled_proper n m table fine) x psi

-- no item has both reasons for not being accepted: one that is not effective is a conditional reverse plan
pub one_reason : (d : Device) (x : Item) → (Reverses d x → ⊥) → (Effective d x → ⊥) → ⊥
one_reason = not-both

-- 01's sending and 001's executions say the same
pub sending : (d : Device) (cs : List ℕ) (E S : ℕ) → Returns d E cs S ↔ (Executable d E cs × EndsIn d E cs S)
sending = returns↔

-- 2. the possible states by one forward and one backward pass are those that some history has
pub possible : (d : Device) (r : Run) → Proper d → AllowedRun d r → (j s : ℕ) → j ≤ last r → In (belief d r j) s ↔ Possible d r j s
possible d r proper ok = possible↔ d proper r (percept-states d r ok 0 zero_point)
  where
    zero_point : 0 ≤ last r
    zero_point = search zero-le

-- and the computed fit is the fit by histories
pub fitting : (d : Device) (r : Run) → Proper d → AllowedRun d r → (x : Item) (j : ℕ) → j ≤ last r → T (fits d r x j) ↔ Fits d r x j
fitting d r proper ok = fits↔ d proper r ok

-- which is 01's: its forward commands are the run's there, all possible states at j are in phi, and all at j - k are in psi
pub fitting_possible : (d : Device) (r : Run) (x : Item) (j : ℕ)
    → Fits d r x j
    ↔ ((length x.forward ≤ j)
    × (take (length x.forward) (drop (j - length x.forward) r.commands) ≡ x.forward)
    × ((s : ℕ) → Possible d r j s → In x.phi s)
    × ((s : ℕ) → Possible d r (j - length x.forward) s → In x.psi s))
fitting_possible = fits_possible

-- 3. each of the 33 numbers is the least sum over all chains from its point, or 4,294,967,295 exactly where there is none
pub least_sums : (d : Device) (ws : List ℕ) (items : List Item) (r : Run) → Allowed d ws items r → Numbers d ws r items (numbers d ws r items)
least_sums = numbers-right

-- which no chain's sum comes near: 32 points, at most 8 commands for each, of weight 1,000 at most
pub far_below : (d : Device) (ws : List ℕ) (items : List Item) (r : Run) → Allowed d ws items r → (xs : List ℕ) (j : ℕ) → j ≤ last r
    → Chain d r items j xs → cost ws items xs ≤ 256000
far_below d ws items r ok xs j l c = omega (arith, cost-most d ws items r ok xs j c, ok.run.short)

-- 4. end to end: the plan of every chain that fits the run undoes it, whichever outcomes are taken
pub end_to_end : (d : Device) (r : Run) (items : List Item) → Each (Accepted d) items → (xs : List ℕ) → Chain d r items (last r) xs
    → Undoes d r (plan_of items xs)
end_to_end = chain-undoes

-- assembling on values answers as 01 and 02 say
pub answering : (d : Device) (ws : List ℕ) (items : List Item) (r : Run) → Allowed d ws items r → Answers d ws items r (answer d ws items r)
answering = answer-right

-- 02: "The step from a rule to a table is proved for any device rule": one computed test over all entries makes the table the rule's
pub from_rule_to_table : {d : DeviceRule} {f : ℕ → ℕ → ℕ} → WorksOut d f → {not-empty : ℕ} {table : List ℕ} → length table ≡ d.n * d.m
    → T (every (by_rule d.m f) 0 table) → filled table ≡ not-empty → EqualsRule d not-empty table
from_rule_to_table works = rule_to_table works

-- 01: "Every mask has no bit at n or above": every outcome of the two devices is a state of theirs
pub ridge-inside : LeadsInside ridge
ridge-inside = ridge-leads-inside

pub portable-inside : LeadsInside portable
portable-inside = portable-leads-inside

-- the largest book has 31,178 bytes: 01's 31,110 and 02's 68
pub longest : (bytes : List ℕ) → WellFormed bytes → length bytes ≤ 31178
longest bytes (b, a, e) = subst (λ (s : List ℕ). length s ≤ 31178) e (length-book b a)

pub as_long : (bytes : List ℕ) × WellFormed bytes × (length bytes ≡ 31178)
as_long = let (b, a, e) = largest-book in (bytes_of b, (b, a, refl), e)

-- ---- the calls, and the same as C and Rust link them

pub reading : ReadClaims read_routine
reading = read_claims read_routine (λ M. read-met)

pub exported_reading : ReadClaims exported_read_routine
exported_reading = read_claims exported_read_routine (λ M. exported-read-met)

pub checking : CheckClaims check_routine
checking = check_claims check_routine (λ M. check-met)

pub exported_checking : CheckClaims exported_check_routine
exported_checking = check_claims exported_check_routine (λ M. exported-check-met)

-- with a table as the only buffer
pub checking-table : CheckTableClaims check_table_routine
checking-table = check_table_claims check_table_routine (λ M. check-table-met)

-- the same of what finding goes through
pub checking-in-table : CheckInTableClaims check_in_table_routine
checking-in-table = check_in_table_claims check_in_table_routine (λ M. check-in-table-met)

-- how much checking a book will take
pub forecasting : ForecastClaims forecast_routine
forecasting = forecast_claims forecast_routine (λ M. forecast-met)

pub exported_forecasting : ForecastClaims exported_forecast_routine
exported_forecasting = forecast_claims exported_forecast_routine (λ M. exported-forecast-met)

-- the reverse for an item
pub finding : FindClaims find_routine
finding = find_claims find_routine (λ M. find-met)

pub exported_finding : FindClaims exported_find_routine
exported_finding = find_claims exported_find_routine (λ M. exported-find-met)

pub writing : WriteClaims write_routine
writing = write_claims write_routine (λ M. write-met)

pub exported_writing : WriteClaims exported_write_routine
exported_writing = write_claims exported_write_routine (λ M. exported-write-met)

-- demand 3 is a field of each of these three
pub assembling : AssembleClaims assemble_routine
assembling = assemble_claims assemble_routine (λ M. assemble-met)

pub exported_assembling : AssembleClaims exported_assemble_routine
exported_assembling = assemble_claims exported_assemble_routine (λ M. exported-assemble-met)

pub assembling_legs : LegsClaims assemble_legs_routine
assembling_legs = legs_claims assemble_legs_routine (λ M. assemble-legs-met)

-- with a scratch of 64 masks in place of table, slots and weights; demand 3 is a field of these two as well
pub assembling_small : SmallClaims assemble_small_routine
assembling_small = small_claims assemble_small_routine (λ M. assemble-small-met)

pub exported_assembling_small : SmallClaims exported_small_routine
exported_assembling_small = small_claims exported_small_routine (λ M. exported-small-met)

-- 02: "With buffers of the stated lengths, plan and legs lent alike, result, plan and legs equal the first form's for every book and run"
pub equal_forms : EqualForms assemble_routine assemble_small_routine
equal_forms = equal_claims assemble_routine assemble_small_routine (λ M. assemble-met) (λ M. assemble-small-met)

pub exported_equal_forms : EqualForms exported_assemble_routine exported_small_routine
exported_equal_forms = equal_claims exported_assemble_routine exported_small_routine (λ M. exported-assemble-met) (λ M. exported-small-met)

-- on paper: demand 3 is a field of these two as well
pub laying_out : PaperClaims lay_out_routine
laying_out = paper_claims lay_out_routine (λ M. lay-out-met)

pub exported_laying_out : PaperClaims exported_page_routine
exported_laying_out = paper_claims exported_page_routine (λ M. exported-page-met)

-- what assembling gives for a run of i commands is within the forecast for i, for either form of the legs
pub plans_foreseen : {E : Type 0} {form : LegForm E} {ask : Asked} {i : ℕ} {f : Forecasted} {l : AllLent E} {r : Assembly} {l' : AllLent E}
    → Forecasts ask.book i f → f.code ≡ 0 → (u : Run) → run_bytes u ≡ ask.run → last u ≡ i → Assembles form ask l r l'
    → (r.commands ≤ f.plan_bytes) × (r.legs ≤ f.legs)
plans_foreseen = foreseen.plans_foreseen

-- 02: "The forecast never exceeds 65,536" (a claim of each call), and some book's is as much
pub as_many_units : (b : Book) × AllowedBook b × Forecasts (bytes_of b) 32 (record { code = 0; place = 0; units = 65536; plan_bytes = 256; legs = 32 })
as_many_units = units_reached

-- the ridge repeater: its lookup, its constant table, and its rule's function, which the generator prints
pub looking_up_ridge : LookupClaims ridge ridge_lookup_routine
looking_up_ridge = lookup_claims ridge_lookup_routine ridge-works-out (λ M. ridge-lookup-met)

pub exported_looking_up_ridge : LookupClaims ridge exported_ridge_routine
exported_looking_up_ridge = lookup_claims exported_ridge_routine ridge-works-out (λ M. exported-ridge-met)

pub ridge-table : RidgeTable ridge_table_routine
ridge-table = ridge_table_claims ridge_table_routine (λ M. ridge-table-met)

-- and of the entries that the lookup reads
pub ridge-entries : RidgeEntries ridge_entries_routine
ridge-entries = ridge_entries_claims ridge_entries_routine (λ M. ridge-entries-met)

pub ridge_rule_lem : RuleClaims ridge ridge_outcomes_routine
ridge_rule_lem = rule_claims ridge_outcomes_routine ridge-mask (λ M. ridge-outcomes-met)

-- the portable relay: the same
pub looking_up_portable : LookupClaims portable portable_lookup_routine
looking_up_portable = lookup_claims portable_lookup_routine portable-works-out (λ M. portable-lookup-met)

pub exported_looking_up_portable : LookupClaims portable exported_portable_routine
exported_looking_up_portable = lookup_claims exported_portable_routine portable-works-out (λ M. exported-portable-met)

pub portable-table : PortableTable portable_table_routine
portable-table = portable_table_claims portable_table_routine (λ M. portable-table-met)

pub portable-entries : PortableEntries portable_entries_routine
portable-entries = portable_entries_claims portable_entries_routine (λ M. portable-entries-met)

pub portable_rule_lem : RuleClaims portable portable_outcomes_routine
portable_rule_lem = rule_claims portable_outcomes_routine portable-mask (λ M. portable-outcomes-met)

-- the states that a command visits: 02: "found by counting trailing zeros, which is proved to give the lowest"
pub trailing_zeros : (w : ℕ) → (w ≡ 0 → ⊥) → w < 2 ^ 64 → LowestState w (count_trailing_zeros 64 w)
trailing_zeros = trailing_zeros_lowest

-- where the device's table is lent, a state's outcomes are the table's entry
pub in_table : (κ : Lft) (it : Tabled) → (by_table.ghosts κ).device it ≡ tabled it.n it.m it.table.now
in_table κ it = refl

-- the routines that apply a command to a set visit those present alone, lowest first
pub visiting : VisitClaims by_table visit_by_table sent_by_table
visiting =
    visit_claims by_table visit_by_table sent_by_table
    (λ κ M 𝓤 𝓛 𝓜 𝓡 w.
    visit-met 𝓤 𝓛 𝓜 𝓡 w.2.0 (by_table.type κ) (tabled_laws.the_row_laws (record { mir = erased; lft = κ })) (by_table.ghosts κ) by_table.dict
    (table_met.bound 𝓡.env w.2.1.0 w.2.1.1.0 w.2.1.1.1.0 κ M 𝓤 𝓛 𝓜 𝓡))
    (λ κ M 𝓤 𝓛 𝓜 𝓡 w.
    sent-met 𝓤 𝓛 𝓜 𝓡 w.2.0 (by_table.type κ) (tabled_laws.the_row_laws (record { mir = erased; lft = κ })) (by_table.ghosts κ) by_table.dict
    (table_met.bound 𝓡.env w.2.1.0 w.2.1.1.0 w.2.1.1.1.0 κ M 𝓤 𝓛 𝓜 𝓡))

-- where a book's bytes and an index are lent, they are those of its moves
pub in_moves : (κ : Lft) (it : Moved) → (by_moves.ghosts κ).device it ≡ moved it.book.now it.n it.m it.index.now
in_moves κ it = refl

pub visiting_moves : VisitClaims by_moves visit_by_moves sent_by_moves
visiting_moves =
    visit_claims by_moves visit_by_moves sent_by_moves
    (λ κ M 𝓤 𝓛 𝓜 𝓡 w.
    visit-met 𝓤 𝓛 𝓜 𝓡 w.2.0 (by_moves.type κ) (moved_laws.the_row_laws (record { mir = erased; lft = κ })) (by_moves.ghosts κ) by_moves.dict
    (moves_met.bound 𝓡.env w.2.1.0 w.2.1.1.0 w.2.1.1.1.0 κ M 𝓤 𝓛 𝓜 𝓡))
    (λ κ M 𝓤 𝓛 𝓜 𝓡 w.
    sent-met 𝓤 𝓛 𝓜 𝓡 w.2.0 (by_moves.type κ) (moved_laws.the_row_laws (record { mir = erased; lft = κ })) (by_moves.ghosts κ) by_moves.dict
    (moves_met.bound 𝓡.env w.2.1.0 w.2.1.1.0 w.2.1.1.1.0 κ M 𝓤 𝓛 𝓜 𝓡))

-- the text that the program prints
pub printing : ReportClaims report_routine
printing = report_claims report_routine (λ M. report-met)

-- what lies past the first 31,179 and 302 bytes changes nothing
pub printing_first : {book run book' run' text : List ℕ} → take 31179 book ≡ take 31179 book' → take 302 run ≡ take 302 run' → Prints book run text
    → Prints book' run' text
printing_first = prints-first

-- ---- what follows from the claims, for whoever relies on them

-- demand 3: "Nobody who sends the whole plan from where a history stands last can get stuck or end anywhere but where that history began": of the
-- bytes in the lent plan, on code 0, for either form of the legs
pub whole_plan_undoes : {E : Type 0} (form : LegForm E) {ask : Asked} {l : AllLent E} {r : Assembly} {l' : AllLent E} → Demand form ask l r l'
    → r.code ≡ 0 → {b : Book} {u : Run} → Given ask b u → Undoes (device_of b) u (take r.commands l'.room.plan)
whole_plan_undoes = follows.whole_plan

-- and of the commands taken down the page
pub page_undoes : {ask : Asked} {l : AllLent ℕ} {page : List ℕ} {r : Paged} {l' : AllLent ℕ} {page' : List ℕ} → PageDemand ask l page r l' page'
    → TakenDown r l' page' → LongEnough (page_sizes page) → r.assembly.code ≡ 0 → {b : Book} {u : Run} → Given ask b u
    → Undoes (device_of b) u (down commands_on (lines_on r page'))
page_undoes = follows.page_undoes

-- the same of the exported routines, whatever they are passed
pub plans_undo : Always assemble.ended exported_assemble_routine (on_assemble PlanUndoes)
plans_undo = follows.undoing exported_assemble_routine exported_assembling

pub plans_undo_legs : Always assemble-legs.ended assemble_legs_routine (on_legs PlanUndoes)
plans_undo_legs = follows.undoing_legs assemble_legs_routine assembling_legs

pub plans_undo_small : Always assemble-small.ended exported_small_routine (on_small SmallUndoes)
plans_undo_small = follows.undoing_small exported_small_routine exported_assembling_small

-- the item that is found, put behind the book's items, gives an accepted book
pub found_joins : Always find.ended exported_find_routine (on_find FoundJoins)
found_joins = follows.found_joins exported_find_routine exported_finding

-- with an empty phi or psi there is no reverse, and over 8 forward commands are no item's
pub no_ends_none : Always find.ended exported_find_routine (on_find (λ book q table r table'. 2048 ≤ length table → (b : Book) → AcceptedBook book b
    → MayHold (device_of b) q → (q.phi ≡ 0) ⊎ (q.psi ≡ 0) → r.code ≡ 15))
no_ends_none = follows.empty-mask exported_find_routine exported_finding

pub nine-barred : Always find.ended exported_find_routine (on_find (λ book q table r table'. 2048 ≤ length table → (b : Book) → AcceptedBook book b
    → 8 < length q.forward → r.code ≡ 14))
nine-barred = follows.nine-forward exported_find_routine exported_finding

-- for an item of the book itself, of at most 3 reverse commands, some reverse is found
pub own_found : Always find.ended exported_find_routine (on_find (λ book q table r table'. 2048 ≤ length table → (b : Book) → AcceptedBook book b
    → (i : ℕ) → i < length (items_of b) → let x = item (items_of b) i in length x.reverse ≤ 3 → q ≡ sought x.forward x.phi x.psi → r.code ≡ 0))
own_found = follows.own_found exported_find_routine exported_finding

-- plan and legs of the two forms of assembling, each compiled routine's, are one function of what is lent
pub equal_plans : (left : Asked → Room ℕ → Room ℕ)
    × Always assemble.ended assemble_routine (on_assemble (λ ask l r l'. LongEnough (all_sizes in_bytes l) → l'.room ≡ left ask l.room))
    × Always assemble-small.ended assemble_small_routine (on_small (λ ask scratch room r scratch' room'. LongEnough (small_sizes scratch room)
    → room' ≡ left ask room))
equal_plans = follows.equal_rooms equal_forms

-- any answer but 1 needs a scratch of 64 masks
pub scratch_long : {ask : Asked} {scratch : List ℕ} {room : Room ℕ} {r : Assembly} {scratch' : List ℕ} {room' : Room ℕ}
    → SmallDemand ask scratch room r scratch' room' → (r.code ≡ 1 → ⊥) → 64 ≤ length scratch
scratch_long = follows.scratch_long

-- by the exported routines Q is read, accepted and foreseen, and what is written is at most 31,178 bytes
pub q_read_so : Always read.ended exported_read_routine (on_read (λ book l r l'. book ≡ bytes_q → LongEnough (sizes l) → r.code ≡ 0))
q_read_so = follows.reads_q exported_read_routine exported_reading

pub q_checked_so : Always check.ended exported_check_routine (on_check (λ book l r l'. book ≡ bytes_q → LongEnough (sizes l) → r.code ≡ 0))
q_checked_so = follows.checks_q exported_check_routine exported_checking

pub q_foreseen_so : Always forecast.ended exported_forecast_routine (on_forecast (λ book i r. book ≡ bytes_q → i ≤ 32 → r.code ≡ 0))
q_foreseen_so = follows.foresees_q exported_forecast_routine exported_forecasting

pub written-most : Always write.ended exported_write_routine (on_write (λ n m items l out r out'. r.code ≡ 0 → r.length ≤ 31178))
written-most = follows.writes_most exported_write_routine exported_writing

-- no check of a well-formed book makes more than 65,536 units
pub units_most : {book : List ℕ} {l : Lent} {r : Checking} {l' : Lent} {i : ℕ} {q : Forecasted} → UnitsForeseen book l r l' → Forecasts book i q
    → ForecastNumbers book i q → q.code ≡ 0 → r.units ≤ 65536
units_most = follows.units_most

-- 02, of 12: "accepted by the old rule but not effective"; and where some history fits the run, such an item fits nowhere in it
pub twelve_by_the_old_rule : {b : Book} {i : ℕ} → WrongFor b i NotEffective → Reverses (device_of b) (item (items_of b) i)
twelve_by_the_old_rule = follows.old_rule

pub never_fitting : (d : Device) (r : Run) (h : ℕ → ℕ) → History d r h → (x : Item) → NeverUsed d x → (j : ℕ) → j ≤ last r → Fits d r x j → ⊥
never_fitting = never-fits

-- a row of 5,461 bytes begins with the program's text
pub row_printed : {book run out : List ℕ} {r : ℕ} {out' : List ℕ} → Reports book run out r out' → 5461 ≤ length out → Prints book run (take r out')
row_printed = follows.row_printed

-- 01: "616 aren't empty", so that 408 of the ridge repeater's are; of the portable relay's none is
pub ridge-empty : {table : List ℕ} → ConstantTable ridge 616 table → empty_in table ≡ 408
ridge-empty c = omega (arith, follows.empty_left ridge c)

pub portable-empty : {table : List ℕ} → ConstantTable portable 384 table → empty_in table ≡ 0
portable-empty c = omega (arith, follows.empty_left portable c)

-- 02: "its output must be the constant tables": what works the rule out at each entry is the table
pub printed_table : (d : DeviceRule) {not-empty : ℕ} {table : List ℕ} → ConstantTable d not-empty table → (printed : List ℕ)
    → length printed ≡ d.n * d.m → ((e : ℕ) → e < d.n * d.m → OutcomesOf d (e / d.m) (e % d.m) (get_or printed e 0)) → table ≡ printed
printed_table = follows.printed_table

-- ---- what 01 says leaves one answer only: for equal arguments, in the result and in every buffer at exit

pub only_reading : {book : List ℕ} {l : Lent} {r q : Reading} {l' l'' : Lent} → Bytes book → Reads book l r l' → Reads book l q l'' → (r ≡ q) × (l' ≡ l'')
only_reading h x y = reads_unique h x y

pub only-checking : {book : List ℕ} {l : Lent} {r q : Checking} {l' l'' : Lent} → Bytes book → Checks book l r l' → Checks book l q l'' → (r ≡ q) × (l' ≡ l'')
only-checking h x y = checks_unique h x y

pub only_checking_table : {book table : List ℕ} {r q : TableChecking} {table' table'' : List ℕ} → Bytes book → TableChecks book table r table'
    → TableChecks book table q table'' → (r ≡ q) × (table' ≡ table'')
only_checking_table h x y = table_checks_unique h x y

pub only_forecast : {book : List ℕ} {i : ℕ} {r q : Forecasted} → Bytes book → Forecasts book i r → Forecasts book i q → r ≡ q
only_forecast h x y = forecasts_unique h x y

pub only_finding : {book : List ℕ} {q : Sought} {table : List ℕ} {r r' : Found} {table' table'' : List ℕ} → Bytes book → Finds book q table r table'
    → Finds book q table r' table'' → (r ≡ r') × (table' ≡ table'')
only_finding h x y = finds_unique h x y

-- one list of commands is the shortest and lowest
pub only-first : {d : Device} {q : Sought} {cs ds : List ℕ} → FirstOf d q cs → FirstOf d q ds → cs ≡ ds
only-first = first_unique

pub only_writing : {n m items : ℕ} {l : Lent} {out : List ℕ} {r q : Writing} {o o' : List ℕ} → Bytes l.slots → Writes n m items l out r o
    → Writes n m items l out q o' → (r ≡ q) × (o ≡ o')
only_writing h x y = writes_unique h x y

-- for either form of the legs
pub only_assembling : {E : Type 0} {form : LegForm E} {ask : Asked} {l : AllLent E} {r q : Assembly} {l' l'' : AllLent E} → Bytes ask.book
    → Assembles form ask l r l' → Assembles form ask l q l'' → (r ≡ q) × (l' ≡ l'')
only_assembling h x y = assembles_unique h x y

-- with a scratch: result, plan and legs, what lies past its 64 masks, and where a buffer is short all of it; elsewhere 02 frees the 64
pub only_assembling_small : {ask : Asked} {scratch : List ℕ} {room : Room ℕ} {r q : Assembly} {scratch' scratch'' : List ℕ} {room' room'' : Room ℕ}
    → Bytes ask.book → AssemblesSmall ask scratch room r scratch' room' → AssemblesSmall ask scratch room q scratch'' room''
    → (r ≡ q) × (room' ≡ room'') × (drop 64 scratch' ≡ drop 64 scratch'') × ((LongEnough (small_sizes scratch room) → ⊥) → scratch' ≡ scratch'')
only_assembling_small h x y = small_unique h x y

pub only_laying_out : {ask : Asked} {l : AllLent ℕ} {page : List ℕ} {r q : Paged} {l' l'' : AllLent ℕ} {page' page'' : List ℕ} → Bytes ask.book
    → Pages ask l page r l' page' → Pages ask l page q l'' page'' → (r ≡ q) × (l' ≡ l'') × (page' ≡ page'')
only_laying_out h x y = pages_unique h x y

pub only_looking_up : (d : DeviceRule) (state command : ℕ) (r q : LookupResult) → Looked d state command r → Looked d state command q → r ≡ q
only_looking_up = looked_unique

pub only-table : (d : DeviceRule) {not-empty : ℕ} {table table' : List ℕ} → EqualsRule d not-empty table → EqualsRule d not-empty table' → table ≡ table'
only-table = table_unique

pub only_printing : {book run text text' : List ℕ} → Bytes (take 31179 book) → Prints book run text → Prints book run text' → text ≡ text'
only_printing = prints_unique

-- demand 3 alone, where no refusal before it is due and some history fits: which of 0 and 11, the numbers, and on 0 counts, sum, plan and
-- legs
pub only_demand : {E : Type 0} (form : LegForm E) {ask : Asked} {l : AllLent E} {b : Book} {u : Run} → Ready form ask l b u
    → {r q : Assembly} {l' l'' : AllLent E} → Demand form ask l r l' → Demand form ask l q l''
    → (r.code ≡ q.code) × (r.fewest ≡ q.fewest) × (r.code ≡ 0 → SamePlan form r q l'.room l''.room)
only_demand form ready x y = demand_unique form ready x y

pub only-answer : (d : Device) (ws : List ℕ) (items : List Item) (r : Run) (a b : Answer) → Answers d ws items r a → Answers d ws items r b → a ≡ b
only-answer = answers_unique

-- ---- worked cases, with literal numbers

-- the twelve cases of 01 on the small device Q, items that can never be used, and plans that do not undo a run
pub cases : Twelve
cases = twelve

-- two cases of our own on Q with weights: the chain with more commands is the cheaper; equal sums and different counts
pub cases_weighted : Weighted
cases_weighted = weighted

-- cases of our own that the twelve can't tell: phi and psi against the possible states, a tie that goes to more legs, a set of which one state is stuck
pub cases_slips : Slips
cases_slips = slips

-- the longest run and plan: 32 commands, 256 to send, 32 legs
pub case_longest : Longest
case_longest = longest-case

-- the units and the largest r of the items of Q and of those with weights
pub case_units : WorkedUnits
case_units = worked_units

-- Q, the two books with weights, and two runs as bytes
pub case_books : book-example.Worked
case_books = book-cases.worked

pub case_runs : run-example.Worked
case_runs = run-cases.worked

-- of bytes: Q read and checked, Q5 to Q12 and the two cases with weights assembled, their legs as bytes and as structs; with the items of Q2, Q3 and
-- Q4 refused
pub case_read : QRead
case_read = q_read

pub case_checked : QChecked
case_checked = q_checked

-- with a table as the only buffer: Q, with the items of Q3 and Q4, cut off; a table of 2,047 entries; n and m told apart
pub case_tables : TablesChecked
case_tables = tables_checked

-- the forecast for Q and for the book with weights; i over 32; a book cut off
pub case_forecast : QForecast
case_forecast = q_forecast

-- reverses found on a ring of eight states: the shortest, the lowest, none of at most 3 commands, the weights ignored; and in Q: two starts, items that
-- are not effective, each limit of 14, and the codes before it
pub case_ring : RingFound
case_ring = ring_found

pub case_found : QFound
case_found = q_found

pub runs_in_bytes : Runs in_bytes
runs_in_bytes = runs in_bytes

pub leg-bytes : LegRuns
leg-bytes = leg_runs

pub runs_in_structs : Runs in_structs
runs_in_structs = runs in_structs

pub leg_structs : StructRuns
leg_structs = struct_runs

-- a line with all its columns, byte by byte, and taken apart; the pages of Q5, Q8, Q9 and Q11; a short page
pub lines_on_paper : Lines
lines_on_paper = lines

pub runs_on_paper : PageRuns
runs_on_paper = page_runs

-- both sides of every limit, and every code with the whole answer; a book with 2 states and 3 commands, and the longest plan
pub further_books : book-further.Further
further_books = book-further-cases.further

pub edge_books : book-edges.Edges
edge_books = book-edge-cases.edges

pub edge_runs : run-edges.Edges
edge_runs = run-edge-cases.edges

pub edge_reading : read-edges.Edges
edge_reading = read-edge-cases.edges

pub edge_checking : check-edges.Edges
edge_checking = check-edge-cases.edges

pub edge_writing : write-edges.Edges
edge_writing = write-edge-cases.edges

pub edge_assembling : Edges in_bytes 96 95
edge_assembling = edges in_bytes refl refl

pub edge_legs : Edges in_structs 32 31
edge_legs = struct_edges

pub edge_small : SmallEdges
edge_small = small_edges

pub edge_paper : paper-edges.Edges
edge_paper = paper-edge-cases.edges

pub edge_printing : report-edges.Edges
edge_printing = report-edge-cases.edges

-- the same books and runs, of the compiled routines
pub worked_reading : Always read.ended read_routine (on_read ReadsWorked)
worked_reading = read_worked read_routine (λ M. read-met)

pub worked_writing : Always write.ended write_routine (on_write WritesWorked)
worked_writing = write_worked write_routine (λ M. write-met)

pub worked_checking : Always check.ended check_routine (on_check ChecksWorked)
worked_checking = check_worked check_routine (λ M. check-met)

pub worked_table : Always check-table.ended check_table_routine (on_check_table TableWorked)
worked_table = table_worked check_table_routine (λ M. check-table-met)

pub worked_in_table : Always check-in-table.ended check_in_table_routine (on_check_in_table TableWorked)
worked_in_table = in_table_worked check_in_table_routine (λ M. check-in-table-met)

pub worked_forecast : Always forecast.ended forecast_routine (on_forecast ForecastsWorked)
worked_forecast = forecast_worked forecast_routine (λ M. forecast-met)

pub worked_finding : Always find.ended find_routine (on_find FindsWorked)
worked_finding = find_worked find_routine (λ M. find-met)

pub worked_assembling : Always assemble.ended assemble_routine (on_assemble (AssemblesWorked in_bytes))
worked_assembling = assemble_worked assemble_routine (λ M. assemble-met)

pub worked_small : Always assemble-small.ended assemble_small_routine (on_small SmallWorked)
worked_small = small_worked assemble_small_routine (λ M. assemble-small-met)

pub worked_legs : Always assemble-legs.ended assemble_legs_routine (on_legs (AssemblesWorked in_structs))
worked_legs = legs_worked assemble_legs_routine (λ M. assemble-legs-met)

pub worked_paper : Always lay-out.ended lay_out_routine (on_lay_out PaperWorked)
worked_paper = paper_worked lay_out_routine (λ M. lay-out-met)

-- the program's text for Q5, Q8, Q9 and Q11
pub printed : Examples
printed = examples

-- refusals of books, of runs and of writing: each code, and each step of the order
pub spoilt_books : book-example.Spoilt
spoilt_books = book-cases.spoilt

pub spoilt_runs : run-example.Spoilt
spoilt_runs = run-cases.spoilt

pub spoilt_writing : write-example.Spoilt
spoilt_writing = write-cases.spoilt

-- masks of the two devices, worked out by hand
pub ridge_figures : ridge-example.Figures
ridge_figures = ridge-cases.figures

pub portable_figures : portable-example.Figures
portable_figures = portable-cases.figures
