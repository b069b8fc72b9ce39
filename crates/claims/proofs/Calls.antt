-- The claims of each call, of any routine that keeps the call's contract. Assumes nothing.
use mathlib.Core.Path.{◌≡◌, subst, subst⁻¹, subst₂}
use mathlib.Core.List.{List}
use Prim.Native.Nat.{ℕ, ◌≤◌}
use lib.ListN.{length}
use Rattle.base.specs.Lists.{Bytes, Written}
use Rattle.base.specs.Sizes.{LongEnough}
use Rattle.reversal.specs.Runs.{Run}
use Rattle.book.specs.Lent.{Lent}
use Rattle.book.specs.Example.{bytes_q}
use Rattle.runs.specs.RunBytes.{run_bytes}
use base.Fml.{Lft}
use Rattle.states.specs.StateSets.{visited_in, sent_in}
use Rattle.states.specs.Visits.{VisitsPresent, SendsToPresent}
use Rattle.states.proofs.Visits.{visit_present, sent_present}
use Rattle.reader.specs.Contract.{ReadAs}
use Rattle.reader.proofs.Exactly.{reads}
use Rattle.reader.proofs.Unique.{zero↔ as read-zero↔}
use Rattle.reader.specs.contracts.read as read
use Rattle.checker.specs.declared.Checking.{Checking}
use Rattle.checker.specs.declared.Reason.{Reason}
use Rattle.checker.specs.declared.Reason.TheVariants.{NoReversePlan, NotEffective}
use Rattle.checker.specs.Reasons.{code_of}
use Rattle.checker.specs.Checks.{Checks}
use Rattle.std.specs.Prelude.{Result, Ok, Err}
use Rattle.checker.specs.declared.Counts.{Counts}
use Rattle.checker.specs.declared.Rejected.{Rejected}
use Rattle.checker.specs.Contract.{checking_by, CheckAs, CheckInTableAs, CheckTableAs}
use Rattle.checker.proofs.Exactly.{checks}
use Rattle.checker.proofs.Unique.{zero↔ as check-zero↔, wrong_for, checked-wrong}
use Rattle.checker.proofs.TableChecks.{checks_table, table_checks_unique, table_zero↔}
use Rattle.checker.proofs.Ways.{table_as}
use Rattle.checker.specs.contracts.check as check
use Rattle.checker.specs.contracts.check_table as check-table
use Rattle.checker.specs.contracts.check_in_table as check-in-table
use Rattle.forecast.specs.Contract.{ForecastAs}
use Rattle.forecast.proofs.Exactly.{forecasts}
use Rattle.forecast.proofs.Unique.{zero↔ as forecast-zero↔, never, refused-zeros}
use Rattle.forecast.proofs.Bounds.{units_bound, none_exceeds}
use Rattle.forecast.specs.contracts.forecast as forecast
use Rattle.finder.specs.Contract.{FindAs}
use Rattle.finder.proofs.Unique as finds
use Rattle.finder.proofs.Cases.{q_found}
use Rattle.finder.specs.contracts.find as find
use Rattle.writer.specs.declared.Writing.{Writing}
use Rattle.writer.specs.Writes.{Writes}
use Rattle.writer.specs.Contract.{WriteAs}
use Rattle.writer.proofs.AsContracted.{writes}
use Rattle.writer.proofs.RoundTrips.{writes_zero↔, write_well_formed, write_length}
use Rattle.writer.specs.contracts.write as write
use Rattle.assembly.specs.Asked.{Asked, asked}
use Rattle.assembly.specs.declared.Assembly.{Assembly}
use Rattle.assembly.specs.Lent.{LegForm, in_bytes, AllLent, all_sizes}
use Rattle.assembly.specs.Assembles.{Assembles}
use Rattle.assembly.specs.Contract.{AssembleAs, SmallAs}
use Rattle.assembly.proofs.Exactly.{even-bytes, assembles}
use Rattle.assembly.proofs.Demand.{demand}
use Rattle.assembly.proofs.Small.{in_any, assembles_small, small_demand, result_by, left_by, first_gives, small_gives}
use Rattle.assembly.specs.contracts.assemble as assemble
use Rattle.assembly.specs.contracts.assemble_small as assemble-small
use Rattle.lookups.specs.Rules.{DeviceRule, OutcomesOf, WorksOut}
use Rattle.lookups.specs.Lookup.{EqualsRule}
use Rattle.lookups.specs.Computed.{lookup_of, WorksOutAll}
use Rattle.lookups.proofs.Tables.{entry-generated}
use Rattle.lookups.proofs.Exactly.{looked}
use Rattle.ridge_rule.specs.Ridge.{ridge}
use Rattle.ridge_rule.specs.contracts.outcomes as outcomes
use Rattle.ridge.specs.contracts.lookup as lookup
use Rattle.ridge.specs.contracts.table as ridge-table
use Rattle.ridge.specs.contracts.entries as ridge-entries
use Rattle.portable_rule.specs.Portable.{portable}
use Rattle.portable.specs.contracts.table as portable-table
use Rattle.portable.specs.contracts.entries as portable-entries
use Rattle.paper.specs.declared.Paged.{Paged}
use Rattle.paper.specs.Pages.{page_sizes, Pages}
use Rattle.paper.specs.Cases.{PageGiven}
use Rattle.paper.specs.Contract.{PageAs}
use Rattle.paper.proofs.Exactly.{laid_out}
use Rattle.paper.proofs.TakenDown.{taken_down, page_demand}
use Rattle.paper.proofs.Unique.{as_assembling}
use Rattle.paper.specs.contracts.lay_out as lay-out
use Rattle.planner.specs.Structs.{in_structs}
use Rattle.planner.proofs.Structs.{even_structs}
use Rattle.planner.specs.contracts.rollback_assemble_legs as assemble-legs
use Rattle.report.specs.Contract.{ReportAs}
use Rattle.report.proofs.Exactly.{reports}
use Rattle.report.specs.contracts.report as report
use Rattle.claims.specs.Always.{After, Compiled, Always, AlwaysHeld}
use Rattle.claims.specs.Claims.{answer_by, Implementation, visit_ended, sent_ended, on_visit, on_sent, held, on_read, on_check, on_check_table, on_check_in_table, on_forecast, on_find, on_write, on_assemble, on_small, on_legs, on_lay_out, on_lookup, on_outcomes, on_report, WellWritten, ReadClaims, ChecksWrong, CheckClaims, AsChecking, CheckTableClaims, CheckInTableClaims, ForecastNumbers, NoneExceeds, ForecastClaims, FindsZero, FindsBarred, FindsNone, FoundCommands, FoundAsChecking, FindClaims, WriteClaims, AssembleClaims, SmallClaims, EqualForms, LegsClaims, AsAssembling, PaperClaims, LookupClaims, RuleClaims, ConstantTable, RidgeTable, PortableTable, RidgeEntries, PortableEntries, ReportClaims, VisitClaims}
use Rattle.claims.specs.Worked.{ChecksWorked, TableWorked, ForecastsWorked, FindsWorked, AssemblesWorked, SmallWorked, PaperWorked, ReadsWorked, WritesWorked}
use Rattle.claims.proofs.Weaker.{weaker, weaker_held}
use Rattle.claims.proofs.RoundTrips.{read_back, write_back}
use Rattle.claims.proofs.Foreseen.{units_foreseen}

constant_table : {d : DeviceRule} {not-empty : ℕ} {table : List ℕ} → EqualsRule d not-empty table → ConstantTable d not-empty table
constant_table {d} q = record { equals_rule = q; generated = entry-generated d q }

checks_wrong : (why : Reason) {book : List ℕ} {l : Lent} {r : Checking} {l' : Lent} → Bytes book → Checks book l r l'
    → ChecksWrong (code_of why) why book l r l'
checks_wrong why h x = record { only = wrong_for h x why; always = λ long b a same i w. (checked-wrong h x long a same w).0 }

-- the two forms of assembling, each by its own contract
pub equal_claims : (ρ σ : Compiled) → Always assemble.ended ρ (on_assemble (AssembleAs in_bytes)) → Always assemble-small.ended σ (on_small SmallAs)
    → EqualForms ρ σ
equal_claims ρ σ first small =
    record {
      result = result_by;
      left = left_by;
      first = weaker assemble.ended ρ (on_assemble (AssembleAs in_bytes)) _ (λ κs a r e c. first_gives c) first;
      small = weaker assemble-small.ended σ (on_small SmallAs) _ (λ κs a r e c. small_gives c) small;
    }

-- what applies a command to a set, each routine by its own contract
pub visit_claims : (I : Implementation) (ρ σ : Lft → Compiled)
    → ((κ : Lft) → AlwaysHeld (visit_ended I κ) (held I κ) (ρ κ) (on_visit I κ (λ d c w r. r ≡ visited_in d c w)))
    → ((κ : Lft) → AlwaysHeld (sent_ended I κ) (held I κ) (σ κ) (on_sent I κ (λ d c w r. r ≡ sent_in d c w))) → VisitClaims I ρ σ
visit_claims I ρ σ visits sends =
    record {
      visits = λ κ.
          weaker_held (visit_ended I κ) (held I κ) (ρ κ) (on_visit I κ (λ d c w r. r ≡ visited_in d c w))
          (on_visit I κ (λ d c w r. d.n ≤ 64 → d.m ≤ 32 → VisitsPresent d c w r)) (λ κs a r e q hn hm. visit_present _ _ _ hn hm q) (visits κ);
      sends = λ κ.
          weaker_held (sent_ended I κ) (held I κ) (σ κ) (on_sent I κ (λ d c w r. r ≡ sent_in d c w))
          (on_sent I κ (λ d c w r. d.n ≤ 64 → d.m ≤ 32 → SendsToPresent d c w r)) (λ κs a r e q hn hm. sent_present _ _ _ hn hm q) (sends κ);
    }

-- what the call with a `Result` promises of the answer that stands for it
abbrev on_in_table : After check-in-table.ended
on_in_table κs (book, (table, _)) r (_, (table', _)) = CheckInTableAs book.now table.now (checking_by r) table'.now

abbrev AlwaysInTable : Compiled → Type 2
AlwaysInTable ρ = Always check-in-table.ended ρ on_in_table

table_answer : {s table table' : List ℕ} (r : Result Counts Rejected) → CheckInTableAs s table (checking_by r) table' → CheckTableAs s table (answer_by r) table'
table_answer (Ok b) c = table_as c
table_answer (Err e) c = table_as c

in_table : (ρ : Compiled) → AlwaysInTable ρ → Always check-in-table.ended ρ (on_check_in_table CheckTableAs)
in_table ρ = weaker check-in-table.ended ρ on_in_table (on_check_in_table CheckTableAs) (λ κs a r e. table_answer r)

module _ (ρ : Compiled) where
  pub read_claims : Always read.ended ρ (on_read ReadAs) → ReadClaims ρ
  read_claims always =
      record {
        says = weaker read.ended ρ (on_read ReadAs) _ (λ κs a r e c. reads c) always;
        zero = weaker read.ended ρ (on_read ReadAs) _ (λ κs a r e c. read-zero↔ c.bytes (reads c)) always;
        given_back = weaker read.ended ρ (on_read ReadAs) _ (λ κs a r e c. read_back c.bytes (reads c)) always;
      }

  pub check_claims : Always check.ended ρ (on_check CheckAs) → CheckClaims ρ
  check_claims always =
      record {
        says = weaker check.ended ρ (on_check CheckAs) _ (λ κs a r e c. checks c) always;
        zero = weaker check.ended ρ (on_check CheckAs) _ (λ κs a r e c. check-zero↔ c.bytes (checks c)) always;
        eight = weaker check.ended ρ (on_check CheckAs) _ (λ κs a r e c. checks_wrong NoReversePlan c.bytes (checks c)) always;
        twelve = weaker check.ended ρ (on_check CheckAs) _ (λ κs a r e c. checks_wrong NotEffective c.bytes (checks c)) always;
        units_foreseen = weaker check.ended ρ (on_check CheckAs) _ (λ κs a r e c. units_foreseen c.bytes (checks c)) always;
      }

  pub check_table_claims : Always check-table.ended ρ (on_check_table CheckTableAs) → CheckTableClaims ρ
  check_table_claims always =
      record {
        says = weaker check-table.ended ρ (on_check_table CheckTableAs) _ (λ κs a r e c. c.says) always;
        zero = weaker check-table.ended ρ (on_check_table CheckTableAs) _ (λ κs a r e c. table_zero↔ c.bytes c.says) always;
        as_checking =
            weaker check-table.ended ρ (on_check_table CheckTableAs) (on_check_table AsChecking)
            (λ κs a r e c slots weights q l' x long enough. table_checks_unique c.bytes c.says (checks_table x long enough)) always;
      }

  pub check_in_table_claims : AlwaysInTable ρ → CheckInTableClaims ρ
  check_in_table_claims always =
      let told = in_table ρ always in
      record {
        says = weaker check-in-table.ended ρ (on_check_in_table CheckTableAs) _ (λ κs a r e c. c.says) told;
        zero = weaker check-in-table.ended ρ (on_check_in_table CheckTableAs) _ (λ κs a r e c. table_zero↔ c.bytes c.says) told;
        as_checking =
            weaker check-in-table.ended ρ (on_check_in_table CheckTableAs) (on_check_in_table AsChecking)
            (λ κs a r e c slots weights q l' x long enough. table_checks_unique c.bytes c.says (checks_table x long enough)) told;
      }

  pub forecast_claims : Always forecast.ended ρ (on_forecast ForecastAs) → ForecastClaims ρ
  forecast_claims always =
      record {
        says = weaker forecast.ended ρ (on_forecast ForecastAs) _ (λ κs a r e c. forecasts c) always;
        zero = weaker forecast.ended ρ (on_forecast ForecastAs) _ (λ κs a r e c. forecast-zero↔ c.bytes (forecasts c)) always;
        numbers =
            weaker forecast.ended ρ (on_forecast ForecastAs) (on_forecast ForecastNumbers)
            (λ κs a r e c. record { never = never (forecasts c); zeros = refused-zeros (forecasts c); at_most = units_bound (forecasts c) }) always;
        none_exceeds = weaker forecast.ended ρ (on_forecast ForecastAs) (on_forecast NoneExceeds) (λ κs a r e c. none_exceeds (forecasts c)) always;
      }

  pub find_claims : Always find.ended ρ (on_find FindAs) → FindClaims ρ
  find_claims always =
      record {
        says = weaker find.ended ρ (on_find FindAs) _ (λ κs a r e c. c.says) always;
        zero = weaker find.ended ρ (on_find FindAs) (on_find FindsZero) (λ κs a r e c. finds.zero↔ c.bytes c.says) always;
        fourteen = weaker find.ended ρ (on_find FindAs) (on_find FindsBarred) (λ κs a r e c. finds.fourteen↔ c.bytes c.says) always;
        fifteen = weaker find.ended ρ (on_find FindAs) (on_find FindsNone) (λ κs a r e c. finds.fifteen↔ c.bytes c.says) always;
        commands =
            weaker find.ended ρ (on_find FindAs) (on_find FoundCommands)
            (λ κs a r e c.
            let (few, unused, zeros) = finds.found-numbers c.bytes c.says in
            record { at_most = few; first = finds.found_first c.bytes c.says; unused = unused; refused = zeros }) always;
        as_checking =
            weaker find.ended ρ (on_find FindAs) (on_find FoundAsChecking)
            (λ κs a r e c slots weights q l' x long enough. finds.as_checked c.bytes c.says (checks_table x long enough)) always;
      }

  pub write_claims : Always write.ended ρ (on_write WriteAs) → WriteClaims ρ
  write_claims always =
      record {
        says = weaker write.ended ρ (on_write WriteAs) _ (λ κs a r e c. writes c) always;
        zero = weaker write.ended ρ (on_write WriteAs) _ (λ κs a r e c. writes_zero↔ c.bytes (writes c)) always;
        well_formed = weaker write.ended ρ (on_write WriteAs) (on_write WellWritten) (λ κs a r e c z. (write_well_formed (writes c) z, write_length (writes c))) always;
        same_bytes = weaker write.ended ρ (on_write WriteAs) _ (λ κs a r e c. write_back c.bytes (writes c)) always;
      }

  pub assemble_claims : Always assemble.ended ρ (on_assemble (AssembleAs in_bytes)) → AssembleClaims ρ
  assemble_claims always =
      record {
        says = weaker assemble.ended ρ (on_assemble (AssembleAs in_bytes)) _ (λ κs a r e c. assembles even-bytes c) always;
        demand_three =
            weaker assemble.ended ρ (on_assemble (AssembleAs in_bytes)) _ (λ κs a r e c. demand even-bytes c.bytes (assembles even-bytes c)) always;
      }

  pub small_claims : Always assemble-small.ended ρ (on_small SmallAs) → SmallClaims ρ
  small_claims always =
      record {
        says = weaker assemble-small.ended ρ (on_small SmallAs) _ (λ κs a r e c. assembles_small c) always;
        demand_three = weaker assemble-small.ended ρ (on_small SmallAs) _ (λ κs a r e c. small_demand c.bytes (assembles_small c)) always;
      }

  pub legs_claims : Always assemble-legs.ended ρ (on_legs (AssembleAs in_structs)) → LegsClaims ρ
  legs_claims always =
      record {
        says = weaker assemble-legs.ended ρ (on_legs (AssembleAs in_structs)) _ (λ κs a r e c. assembles even_structs c) always;
        demand_three =
            weaker assemble-legs.ended ρ (on_legs (AssembleAs in_structs)) _
            (λ κs a r e c. demand even_structs c.bytes (assembles even_structs c)) always;
      }

  pub paper_claims : Always lay-out.ended ρ (on_lay_out PageAs) → PaperClaims ρ
  paper_claims always =
      record {
        says = weaker lay-out.ended ρ (on_lay_out PageAs) _ (λ κs a r e c. laid_out c) always;
        as_assembling =
            weaker lay-out.ended ρ (on_lay_out PageAs) (on_lay_out AsAssembling)
            (λ κs a r e c long q l'' x. as_assembling c.bytes (laid_out c) long x) always;
        taken_down = weaker lay-out.ended ρ (on_lay_out PageAs) _ (λ κs a r e c. taken_down c.bytes (laid_out c)) always;
        demand_three = weaker lay-out.ended ρ (on_lay_out PageAs) _ (λ κs a r e c. page_demand c.bytes (laid_out c)) always;
      }

  pub lookup_claims : {d : DeviceRule} {f : ℕ → ℕ → ℕ} → WorksOut d f → Always lookup.ended ρ (on_lookup (λ s k r. r ≡ lookup_of d f s k))
      → LookupClaims d ρ
  lookup_claims {d} {f} works always =
      record {
        says = weaker lookup.ended ρ (on_lookup (λ s k r. r ≡ lookup_of d f s k)) _ (λ κs a r e. looked works a.0 a.1.0 r) always;
      }

  pub rule_claims : {d : DeviceRule} {f : ℕ → ℕ → ℕ} → WorksOutAll d f → Always outcomes.ended ρ (on_outcomes (λ s k w. w ≡ f s k)) → RuleClaims d ρ
  rule_claims {d} {f} masks always =
      record {
        says =
            weaker outcomes.ended ρ (on_outcomes (λ s k w. w ≡ f s k)) (on_outcomes (OutcomesOf d))
            (λ κs a r e c. subst⁻¹ (OutcomesOf d a.0 a.1.0) c (masks a.0 a.1.0)) always;
      }

  pub ridge_table_claims : Always ridge-table.ended ρ (λ κs a r e. EqualsRule ridge 616 r) → RidgeTable ρ
  ridge_table_claims = weaker ridge-table.ended ρ (λ κs a r e. EqualsRule ridge 616 r) _ (λ κs a r e. constant_table)

  pub portable_table_claims : Always portable-table.ended ρ (λ κs a r e. EqualsRule portable 384 r) → PortableTable ρ
  portable_table_claims = weaker portable-table.ended ρ (λ κs a r e. EqualsRule portable 384 r) _ (λ κs a r e. constant_table)

  pub ridge_entries_claims : Always ridge-entries.ended ρ (λ κs a r e. EqualsRule ridge 616 r.now) → RidgeEntries ρ
  ridge_entries_claims = weaker ridge-entries.ended ρ (λ κs a r e. EqualsRule ridge 616 r.now) _ (λ κs a r e. constant_table)

  pub portable_entries_claims : Always portable-entries.ended ρ (λ κs a r e. EqualsRule portable 384 r.now) → PortableEntries ρ
  portable_entries_claims = weaker portable-entries.ended ρ (λ κs a r e. EqualsRule portable 384 r.now) _ (λ κs a r e. constant_table)

  pub report_claims : Always report.ended ρ (on_report ReportAs) → ReportClaims ρ
  report_claims always =
      record { says = weaker report.ended ρ (on_report ReportAs) _ (λ κs a r e c. reports c) always }

-- ---- the worked cases, of any routine that keeps the contract
-- a run that was worked out, whatever bytes it came in
worked_run : {E : Type 0} (form : LegForm E) {ask : Asked} {l : AllLent E} {r : Assembly} {l' : AllLent E} → Assembles form ask l r l'
    → AssemblesWorked form ask l r l'
worked_run form {ask = ask} {l = l} {r} {l'} x =
    record {
      run_lent = λ u a give e long. give.left (subst (λ (y : List ℕ). Assembles form (asked ask.book y) l r l') e x) long;
      refused = λ code place gives long. gives.left x long;
    }

worked_page : {u : Run} {text : List ℕ} → PageGiven u text → {ask : Asked} → ask.book ≡ bytes_q → ask.run ≡ run_bytes u → {l : AllLent ℕ} {page : List ℕ}
    {r : Paged} {l' : AllLent ℕ} {page' : List ℕ} → Pages ask l page r l' page' → LongEnough (all_sizes in_bytes l) → LongEnough (page_sizes page)
    → Written text page page' × (r.length ≡ length text)
worked_page given e f {l} {page} {r} {l'} {page'} x long enough =
    given.written (subst₂ (λ (y z : List ℕ). Pages (asked y z) l page r l' page') e f x) long enough

worked_writing : {n m items : ℕ} {l : Lent} {out : List ℕ} {r : Writing} {out' : List ℕ} → Writes n m items l out r out'
    → WritesWorked n m items l out r out'
worked_writing {n} {m} {items} {l} {out} {r} {out'} x =
    record {
      written = λ answer book g e. g.result (subst (λ (o : List ℕ). Writes n m items l o r out') e x);
      refused = λ answer g e. g.result (subst (λ (o : List ℕ). Writes n m items l o r out') e x);
    }

module _ (ρ : Compiled) where
  pub read_worked : Always read.ended ρ (on_read ReadAs) → Always read.ended ρ (on_read ReadsWorked)
  read_worked = weaker read.ended ρ (on_read ReadAs) (on_read ReadsWorked) (λ κs a r e c answer gives stated. gives.result (reads c) stated)

  pub write_worked : Always write.ended ρ (on_write WriteAs) → Always write.ended ρ (on_write WritesWorked)
  write_worked = weaker write.ended ρ (on_write WriteAs) (on_write WritesWorked) (λ κs a r e c. worked_writing (writes c))

  pub check_worked : Always check.ended ρ (on_check CheckAs) → Always check.ended ρ (on_check ChecksWorked)
  check_worked = weaker check.ended ρ (on_check CheckAs) (on_check ChecksWorked) (λ κs a r e c answer judges long. judges.result (checks c) long)

  pub table_worked : Always check-table.ended ρ (on_check_table CheckTableAs) → Always check-table.ended ρ (on_check_table TableWorked)
  table_worked =
      weaker check-table.ended ρ (on_check_table CheckTableAs) (on_check_table TableWorked)
      (λ κs a r e c. record { read = λ answer entry mask gives long. gives.result c.says long; kept = λ answer keeps long. keeps.result c.says long })

  pub in_table_worked : AlwaysInTable ρ → Always check-in-table.ended ρ (on_check_in_table TableWorked)
  in_table_worked always =
      weaker check-in-table.ended ρ (on_check_in_table CheckTableAs) (on_check_in_table TableWorked)
      (λ κs a r e c. record { read = λ answer entry mask gives long. gives.result c.says long; kept = λ answer keeps long. keeps.result c.says long })
      (in_table ρ always)

  pub forecast_worked : Always forecast.ended ρ (on_forecast ForecastAs) → Always forecast.ended ρ (on_forecast ForecastsWorked)
  forecast_worked =
      weaker forecast.ended ρ (on_forecast ForecastAs) (on_forecast ForecastsWorked) (λ κs a r e c answer foresees. foresees.result (forecasts c))

  pub find_worked : Always find.ended ρ (on_find FindAs) → Always find.ended ρ (on_find FindsWorked)
  find_worked =
      weaker find.ended ρ (on_find FindAs) (on_find FindsWorked)
      (λ κs a r e c.
      record {
        read = λ answer entry mask gives long. gives.result c.says long;
        kept = λ answer keeps long. keeps.result c.says long;
        short = q_found.short c.says;
      })

  pub assemble_worked : Always assemble.ended ρ (on_assemble (AssembleAs in_bytes)) → Always assemble.ended ρ (on_assemble (AssemblesWorked in_bytes))
  assemble_worked =
      weaker assemble.ended ρ (on_assemble (AssembleAs in_bytes)) (on_assemble (AssemblesWorked in_bytes))
      (λ κs a r e c. worked_run in_bytes (assembles even-bytes c))

  pub small_worked : Always assemble-small.ended ρ (on_small SmallAs) → Always assemble-small.ended ρ (on_small SmallWorked)
  small_worked =
      weaker assemble-small.ended ρ (on_small SmallAs) (on_small SmallWorked)
      (λ κs a r e c long l enough. (_, worked_run in_bytes (assembles even-bytes (in_any (c.enough long) (long.0, (long.1.0, tt)) l enough))))

  pub legs_worked : Always assemble-legs.ended ρ (on_legs (AssembleAs in_structs)) → Always assemble-legs.ended ρ (on_legs (AssemblesWorked in_structs))
  legs_worked =
      weaker assemble-legs.ended ρ (on_legs (AssembleAs in_structs)) (on_legs (AssemblesWorked in_structs))
      (λ κs a r e c. worked_run in_structs (assembles even_structs c))

  pub paper_worked : Always lay-out.ended ρ (on_lay_out PageAs) → Always lay-out.ended ρ (on_lay_out PaperWorked)
  paper_worked =
      weaker lay-out.ended ρ (on_lay_out PageAs) (on_lay_out PaperWorked)
      (λ κs a r e c u text given same-book same-run long enough. worked_page given same-book same-run (laid_out c) long enough)
