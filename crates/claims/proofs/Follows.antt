-- What follows from the claims for whoever relies on them: each theorem needs a sentence of a claim that no other theorem needs. Assumes nothing.
use mathlib.Core.Path.{◌≡◌, refl, sym, ap, ◌∙◌, subst, subst⁻¹, subst₂}
use mathlib.Core.Bool.{Bool, true, false}
use mathlib.Core.Logic.{◌⊎◌, inl, inr}
use mathlib.Core.List.{List, [], ◌∷◌, ◌++◌, map, map-append, append_assoc, append-nil}
use Prim.Native.Nat.{ℕ, suc, ◌+◌, ◌*◌, ◌/◌, ◌%◌, ◌≤◌, ◌<◌}
use native.Mathlib.Nat.{min-le_left}
use native.Mathlib.Decide.{dec_lt}
use native.Mathlib.Omega.{arith}
use lib.Dec.{eqb}
use lib.ListN.{length, get_or, take, length-append, length-take}
use lib.Seq.{ext_get_or, get_or-take}
use Rattle.base.specs.Tests.{pick}
use Rattle.base.specs.Sizes.{LongEnough}
use Rattle.base.proofs.Lists.{each_at, stored}
use Rattle.base.proofs.Parts.{each_append}
use Rattle.base.proofs.Masks.{in_zero}
use Rattle.reversal.specs.Device.{Device}
use Rattle.reversal.specs.Reversal.{Item, AllowedItem, Reverses, Accepted}
use Rattle.reversal.specs.Runs.{Run, last}
use Rattle.reversal.specs.Chains.{item, legs_of, Undoes}
use Rattle.book.specs.Book.{Rec, Book, device_of, items_of, items_for, AllowedBook, frame, device_rec, weights_recs, move_rec, item_rec, records_of, framed, bytes_of, WellFormed}
use Rattle.book.specs.Lent.{Lent, lent, sizes}
use Rattle.book.specs.Example.{book_q, bytes_q}
use Rattle.reader.specs.declared.Reading.{Reading}
use Rattle.reader.specs.contracts.read as read
use Rattle.checker.specs.declared.Checking.{Checking}
use Rattle.checker.specs.declared.Reason.{Reason}
use Rattle.checker.specs.declared.Reason.TheVariants.{NotEffective}
use Rattle.checker.specs.Reasons.{code_of, Due}
use Rattle.checker.specs.Checks.{AcceptedBook, WrongFor, Checks}
use Rattle.checker.proofs.Cases.{accepted_q}
use Rattle.checker.specs.contracts.check as check
use Rattle.forecast.specs.declared.Forecasted.{Forecasted}
use Rattle.forecast.specs.Forecasts.{Forecasts}
use Rattle.forecast.specs.contracts.forecast as forecast
use Rattle.finder.specs.declared.Found.{Found}
use Rattle.finder.specs.Finds.{Sought, sought, Makes, MayHold}
use Rattle.finder.specs.contracts.find as find
use Rattle.writer.specs.contracts.write as write
use Rattle.assembly.specs.declared.Assembly.{Assembly}
use Rattle.assembly.specs.Lent.{legs_bytes, LegForm, in_bytes, Room, AllLent, all_sizes}
use Rattle.assembly.specs.Asked.{Asked}
use Rattle.assembly.specs.Demand.{Given, Planned, Demand}
use Rattle.assembly.specs.Small.{small_sizes, SmallDemand}
use Rattle.assembly.proofs.DemandUnique.{same-given}
use Rattle.assembly.specs.contracts.assemble as assemble
use Rattle.assembly.specs.contracts.assemble_small as assemble-small
use Rattle.lookups.specs.Rules.{DeviceRule, OutcomesOf}
use Rattle.lookups.specs.Lookup.{filled, empty_in}
use Rattle.paper.specs.declared.Paged.{Paged}
use Rattle.paper.specs.Layout.{page_of}
use Rattle.paper.specs.Taken.{on_line, leg_on, commands_on, down}
use Rattle.paper.specs.Pages.{page_sizes, up_from, lines_on, PageDemand, TakenDown}
use Rattle.planner.specs.Structs.{in_structs}
use Rattle.planner.specs.contracts.rollback_assemble_legs as assemble-legs
use Rattle.report.specs.Prints.{zeros, Prints, Reports}
use Rattle.report.proofs.Exactly.{zeros-long}
use Rattle.claims.specs.Always.{Compiled, Always}
use Rattle.claims.specs.Claims.{Find, on_read, on_check, on_forecast, on_find, on_write, on_assemble, on_small, on_legs, ReadsZero, ChecksZero, ForecastsZero, WellWritten, ReadClaims, CheckClaims, ForecastClaims, FindsZero, FindsBarred, FindsNone, FoundCommands, FoundAsChecking, with_item, FoundJoins, FindClaims, WriteClaims, PlanUndoes, SmallUndoes, AssembleClaims, LegsClaims, SmallClaims, GivenBack, ChecksWrong, UnitsForeseen, ForecastNumbers, EqualForms, ConstantTable}
use Rattle.claims.proofs.Weaker.{weaker}

formed_q : WellFormed bytes_q
formed_q = (book_q, accepted_q.allowed, accepted_q.bytes)

-- ---- assembling

-- on code 0 the bytes in the plan undo the run
pub whole_plan : {E : Type 0} (form : LegForm E) {ask : Asked} {l : AllLent E} {r : Assembly} {l' : AllLent E} → Demand form ask l r l'
    → r.code ≡ 0 → {b : Book} {u : Run} → Given ask b u → Undoes (device_of b) u (take r.commands l'.room.plan)
whole_plan form {r = r} {l'} x z {b} {u} g =
    let (b', (u', g', p)) = x.plan_given z in
    let (e, f) = same-given g' g in
    subst₂ (λ (y : Book) (v : Run). Undoes (device_of y) v (take r.commands l'.room.plan)) e f p.undoes

-- and so do the commands taken down the page
pub page_undoes : {ask : Asked} {l : AllLent ℕ} {page : List ℕ} {r : Paged} {l' : AllLent ℕ} {page' : List ℕ} → PageDemand ask l page r l' page'
    → TakenDown r l' page' → LongEnough (page_sizes page) → r.assembly.code ≡ 0 → {b : Book} {u : Run} → Given ask b u
    → Undoes (device_of b) u (down commands_on (lines_on r page'))
page_undoes x t long z {b} {u} g = subst⁻¹ (Undoes (device_of b) u) t.commands (whole_plan in_bytes (x.enough long) z g)

-- a plan, or that there is no chain, is answered with a scratch that is long enough alone
pub scratch_long : {ask : Asked} {scratch : List ℕ} {room : Room ℕ} {r : Assembly} {scratch' : List ℕ} {room' : Room ℕ}
    → SmallDemand ask scratch room r scratch' room' → (r.code ≡ 1 → ⊥) → 64 ≤ length scratch
scratch_long {scratch = scratch} x n = go (dec_lt (length scratch) 64)
  where
    go : Dec (length scratch < 64) → 64 ≤ length scratch
    go (yes h) = absurd (n (x.short_scratch h))
    go (no h) = omega arith

-- with a scratch the bytes in the plan undo the run too
pub small-undoes : {ask : Asked} {scratch : List ℕ} {room : Room ℕ} {r : Assembly} {scratch' : List ℕ} {room' : Room ℕ}
    → SmallDemand ask scratch room r scratch' room' → r.code ≡ 0 → {b : Book} {u : Run} → Given ask b u
    → Undoes (device_of b) u (take r.commands room'.plan)
small-undoes x z g =
    whole_plan in_bytes (x.as_first (scratch_long x (λ e. omega (arith, z, e))) zeros.read zeros-long.1.1).1 z g

-- the page is the text of the chain whose plan was written
pub page_of_chain : {ask : Asked} {l : AllLent ℕ} {page : List ℕ} {r : Paged} {l' : AllLent ℕ} {page' : List ℕ} → PageDemand ask l page r l' page'
    → LongEnough (page_sizes page) → r.assembly.code ≡ 0 → (b : Book) × ((u : Run) × ((p : Planned in_bytes b u r.assembly l'.room)
    × (take r.length page' ≡ page_of (items_for b) (legs_of (items_for b) (last u) p.items))))
page_of_chain x h z = let (b, (u, g, p)) = (x.enough h).plan_given z in (b, (u, (p, x.chain_laid z b u g p)))

-- on a page that is too short there is no plan
pub no_plan_on_short : {ask : Asked} {l : AllLent ℕ} {page : List ℕ} {r : Paged} {l' : AllLent ℕ} {page' : List ℕ} → PageDemand ask l page r l' page'
    → (LongEnough (page_sizes page) → ⊥) → r.assembly.code ≡ 0 → ⊥
no_plan_on_short x h z = omega (arith, z, x.short h)

-- the lines of the page: 40 characters each, 41 bytes of text for each leg, the first one numbered 1, each with the count of its commands, and its
-- legs are the chain's
module _ {r : Paged} {l' : AllLent ℕ} {page' : List ℕ} (t : TakenDown r l' page') where
  pub lines-wide : (i : ℕ) → i < length (lines_on r page') → length (get_or (lines_on r page') i []) ≡ 40
  lines-wide i h = each_at (λ line. length line ≡ 40) (lines_on r page') t.wide i [] h

  pub page_fits : r.assembly.legs ≤ 32 → r.length ≤ 1312
  page_fits h = omega (arith, t.long)

  pub first-numbered : (n : ℕ) → r.assembly.legs ≡ suc n → get_or (down (on_line 0) (lines_on r page')) 0 0 ≡ 1
  unfolding up_from
  first-numbered n e = ap (λ (xs : List ℕ). get_or xs 0 0) (t.numbered ∙ ap (up_from 1) e)

  pub counts_on_lines : (i : ℕ) → get_or (down (on_line 4) (lines_on r page')) i 0 ≡ get_or (map (λ line. length (commands_on line)) (lines_on r page')) i 0
  counts_on_lines i = ap (λ (xs : List ℕ). get_or xs i 0) t.counted

  pub legs_on_page : {b : Book} {u : Run} (p : Planned in_bytes b u r.assembly l'.room)
      → down leg_on (lines_on r page') ≡ legs_bytes (legs_of (items_for b) (last u) p.items)
  legs_on_page p = t.legs ∙ p.legs_written

-- plan and legs of both forms are one function of what is lent
pub equal_rooms : {ρ σ : Compiled} → EqualForms ρ σ → (left : Asked → Room ℕ → Room ℕ)
    × Always assemble.ended ρ (on_assemble (λ ask l r l'. LongEnough (all_sizes in_bytes l) → l'.room ≡ left ask l.room))
    × Always assemble-small.ended σ (on_small (λ ask scratch room r scratch' room'. LongEnough (small_sizes scratch room)
    → room' ≡ left ask room))
equal_rooms {ρ} {σ} e = (
  e.left,
  weaker assemble.ended ρ
      (on_assemble (λ ask l r l'. LongEnough (all_sizes in_bytes l) → (r ≡ e.result ask) × (l'.room ≡ e.left ask l.room)))
      (on_assemble (λ ask l r l'. LongEnough (all_sizes in_bytes l) → l'.room ≡ e.left ask l.room)) (λ κs a r x c long. (c long).1) e.first,
  weaker assemble-small.ended σ
      (on_small (λ ask scratch room r scratch' room'. LongEnough (small_sizes scratch room) → (r ≡ e.result ask) × (room' ≡ e.left ask room)))
      (on_small (λ ask scratch room r scratch' room'. LongEnough (small_sizes scratch room) → room' ≡ e.left ask room))
      (λ κs a r x c long. (c long).1) e.small,
)

-- ---- checking

-- 8 says that some item is no conditional reverse plan, 12 that some item can never be used; and a book with a wrong item is not accepted
pub item_wrong : {why : Reason} {book : List ℕ} {l : Lent} {r : Checking} {l' : Lent} → ChecksWrong (code_of why) why book l r l' → r.code ≡ code_of why
    → (b : Book) × ((i : ℕ) × ((bytes_of b ≡ book) × Due why (device_of b) (item (items_of b) i)))
item_wrong x z = let (_, (b, a, e, (i, w))) = x.only z in (b, (i, (e, w.due)))

pub wrong_not_passed : {why : Reason} {book : List ℕ} {l : Lent} {r : Checking} {l' : Lent} → ChecksWrong (code_of why) why book l r l'
    → LongEnough (sizes l) → (b : Book) → AllowedBook b → bytes_of b ≡ book → (i : ℕ) → WrongFor b i why → r.code ≡ code_of why
wrong_not_passed x long b a e i w = let (units, made, q) = x.always long b a e i w in ap (λ (y : Checking). y.code) q

-- the units foreseen are the same for every length of run
pub units_one : {book : List ℕ} {l : Lent} {r : Checking} {l' : Lent} {i j : ℕ} {p q : Forecasted} → UnitsForeseen book l r l' → r.code ≡ 0
    → Forecasts book i p → p.code ≡ 0 → Forecasts book j q → q.code ≡ 0 → p.units ≡ q.units
units_one {i = i} {j} {p} {q} x z f y g w = sym (x.equal z i p f y) ∙ x.equal z j q g w

-- where a unit was made some item was judged, and where one is foreseen the forecast answers 0
pub unit_made : {book : List ℕ} {l : Lent} {r : Checking} {l' : Lent} → UnitsForeseen book l r l' → 0 < r.units
    → (r.code ≡ 0 → ⊥) → (r.code ≡ 8 → ⊥) → (r.code ≡ 12 → ⊥) → ⊥
unit_made x h a b c = omega (arith, h, x.none a b c)

pub unit_foreseen : {book : List ℕ} {i : ℕ} {q : Forecasted} → ForecastNumbers book i q → 0 < q.units → (q.code ≡ 0 → ⊥) → ⊥
unit_foreseen x h n = omega (arith, h, (x.zeros n).0)

pub forecast_no_buffer : {book : List ℕ} {i : ℕ} {q : Forecasted} → ForecastNumbers book i q → q.code ≡ 1 → ⊥
forecast_no_buffer x = x.never.0

-- no check makes more than 65,536 units
pub units_most : {book : List ℕ} {l : Lent} {r : Checking} {l' : Lent} {i : ℕ} {q : Forecasted} → UnitsForeseen book l r l' → Forecasts book i q
    → ForecastNumbers book i q → q.code ≡ 0 → r.units ≤ 65536
units_most {i = i} {q} x f y z = omega (arith, x.at_most i q f z, y.at_most)

-- an item that is refused with 12 is accepted by the rule before 02
pub old_rule : {b : Book} {i : ℕ} → WrongFor b i NotEffective → Reverses (device_of b) (item (items_of b) i)
old_rule w = w.due.reverse_plan

-- ---- the round trip
-- each byte of each slot and each weight that was written is read back
pub each_back : {n m items : ℕ} {l : Lent} {r : Reading} {l' : Lent} → GivenBack n m items l r l'
    → ((i : ℕ) → i < 34 * items → get_or l'.slots i 0 ≡ get_or l.slots i 0) × ((i : ℕ) → i < m → get_or l'.weights i 0 ≡ get_or l.weights i 0)
each_back {n} {m} {items} {l} {r} {l'} x = (
  λ i h.
      sym (get_or-take (34 * items) l'.slots i 0 h) ∙ (ap (λ (xs : List ℕ). get_or xs i 0) x.slots_same ∙ get_or-take (34 * items) l.slots i 0 h),
  λ i h. sym (get_or-take m l'.weights i 0 h) ∙ (ap (λ (xs : List ℕ). get_or xs i 0) x.weights_same ∙ get_or-take m l.weights i 0 h),
)

-- ---- the program

-- a row that is long enough begins with the text
pub row_printed : {book run out : List ℕ} {r : ℕ} {out' : List ℕ} → Reports book run out r out' → 5461 ≤ length out → Prints book run (take r out')
row_printed {book} {run} {out' = out'} x long =
    let front = (stored x.text _ out' (omega (arith, x.size, x.most)) x.stored).front in
    subst⁻¹ (Prints book run) (ap (λ (k : ℕ). take k out') x.size ∙ front) x.prints

-- ---- constant tables

filled_or_empty : (ws : List ℕ) → filled ws + empty_in ws ≡ length ws
unfolding filled empty_in pick
filled_or_empty [] = refl
filled_or_empty (w ∷ ws) = go (eqb w 0) (filled_or_empty ws)
  where
    go : (t : Bool) → filled ws + empty_in ws ≡ length ws
        → pick t (filled ws) (suc (filled ws)) + pick t (suc (empty_in ws)) (empty_in ws) ≡ suc (length ws)
    go true e = omega (arith, e)
    go false e = omega (arith, e)

module _ (d : DeviceRule) {not-empty : ℕ} {table : List ℕ} (c : ConstantTable d not-empty table) where
  pub empty_left : not-empty + empty_in table ≡ d.n * d.m
  empty_left = ap (λ (k : ℕ). k + empty_in table) (sym c.equals_rule.count) ∙ filled_or_empty table ∙ c.equals_rule.size

  -- what a generator prints that works the rule out at each entry is the table
  pub printed_table : (printed : List ℕ) → length printed ≡ d.n * d.m
      → ((e : ℕ) → e < d.n * d.m → OutcomesOf d (e / d.m) (e % d.m) (get_or printed e 0)) → table ≡ printed
  printed_table printed size each =
      ext_get_or 0 table printed (c.equals_rule.size ∙ sym size)
      (λ e h. let l : e < d.n * d.m = subst (λ (k : ℕ). e < k) c.equals_rule.size h in c.generated e (get_or printed e 0) l (each e l))

-- ---- of a routine with the claims of its call, whatever it is passed

-- Q is read, accepted and foreseen
pub reads_q : (ρ : Compiled) → ReadClaims ρ → Always read.ended ρ (on_read (λ book l r l'. book ≡ bytes_q → LongEnough (sizes l) → r.code ≡ 0))
reads_q ρ c =
    weaker read.ended ρ (on_read ReadsZero) (on_read (λ book l r l'. book ≡ bytes_q → LongEnough (sizes l) → r.code ≡ 0))
    (λ κs a r e z same long. z.1 (long, subst⁻¹ WellFormed same formed_q)) c.zero

pub checks_q : (ρ : Compiled) → CheckClaims ρ → Always check.ended ρ (on_check (λ book l r l'. book ≡ bytes_q → LongEnough (sizes l) → r.code ≡ 0))
checks_q ρ c =
    weaker check.ended ρ (on_check ChecksZero) (on_check (λ book l r l'. book ≡ bytes_q → LongEnough (sizes l) → r.code ≡ 0))
    (λ κs a r e z same long. z.1 (long, (book_q, subst⁻¹ (λ (s : List ℕ). AcceptedBook s book_q) same accepted_q))) c.zero

pub foresees_q : (ρ : Compiled) → ForecastClaims ρ → Always forecast.ended ρ (on_forecast (λ book i r. book ≡ bytes_q → i ≤ 32 → r.code ≡ 0))
foresees_q ρ c =
    weaker forecast.ended ρ (on_forecast ForecastsZero) (on_forecast (λ book i r. book ≡ bytes_q → i ≤ 32 → r.code ≡ 0))
    (λ κs a r e z same few. z.1 (subst⁻¹ WellFormed same formed_q, few)) c.zero

-- what is written is at most 31,178 bytes
pub writes_most : (ρ : Compiled) → WriteClaims ρ → Always write.ended ρ (on_write (λ n m items l out r out'. r.code ≡ 0 → r.length ≤ 31178))
writes_most ρ c =
    weaker write.ended ρ (on_write WellWritten) (on_write (λ n m items l out r out'. r.code ≡ 0 → r.length ≤ 31178)) (λ κs a r e w z. (w z).1)
    c.well_formed

-- on code 0 the bytes in the plan undo the run, in every form
pub undoing : (ρ : Compiled) → AssembleClaims ρ → Always assemble.ended ρ (on_assemble PlanUndoes)
undoing ρ c = weaker assemble.ended ρ (on_assemble (Demand in_bytes)) (on_assemble PlanUndoes) (λ κs a r e x z b u g. whole_plan in_bytes x z g) c.demand_three

pub undoing_legs : (ρ : Compiled) → LegsClaims ρ → Always assemble-legs.ended ρ (on_legs PlanUndoes)
undoing_legs ρ c =
    weaker assemble-legs.ended ρ (on_legs (Demand in_structs)) (on_legs PlanUndoes) (λ κs a r e x z b u g. whole_plan in_structs x z g) c.demand_three

pub undoing_small : (ρ : Compiled) → SmallClaims ρ → Always assemble-small.ended ρ (on_small SmallUndoes)
undoing_small ρ c =
    weaker assemble-small.ended ρ (on_small SmallDemand) (on_small SmallUndoes) (λ κs a r e x z b u g. small-undoes x z g) c.demand_three

-- ---- finding

framed-append : (xs ys : List Rec) → framed (xs ++ ys) ≡ framed xs ++ framed ys
framed-append [] ys = refl
framed-append (r ∷ xs) ys = ap (λ (t : List ℕ). frame r ++ t) (framed-append xs ys) ∙ sym (append_assoc (frame r) (framed xs) (framed ys))

-- the bytes of a book with one item more
joined_bytes : (b : Book) (x : Item) → bytes_of (with_item b x) ≡ bytes_of b ++ frame (item_rec x)
joined_bytes b x =
    let items : map item_rec (items_of b ++ x ∷ []) ≡ map item_rec (items_of b) ++ item_rec x ∷ [] = map-append item_rec (items_of b) (x ∷ []) in
    let records : records_of (with_item b x) ≡ records_of b ++ item_rec x ∷ []
    = ap (λ (rs : List Rec). device_rec b.n b.m ∷ (weights_recs b.weights ++ (map move_rec b.moves ++ rs))) items
    ∙ ap (λ (rs : List Rec). device_rec b.n b.m ∷ rs)
    (ap (λ (rs : List Rec). weights_recs b.weights ++ rs) (sym (append_assoc (map move_rec b.moves) (map item_rec (items_of b)) (item_rec x ∷ [])))
    ∙ sym (append_assoc (weights_recs b.weights) (map move_rec b.moves ++ map item_rec (items_of b)) (item_rec x ∷ []))) in
    ap framed records ∙ framed-append (records_of b) (item_rec x ∷ []) ∙ ap (λ (t : List ℕ). bytes_of b ++ t) (append-nil (frame (item_rec x)))

-- an accepted item put behind those of an accepted book
joins : {book : List ℕ} {b : Book} → AcceptedBook book b → length (items_of b) < 64 → (x : Item) → AllowedItem (device_of b) x → Accepted (device_of b) x
    → AcceptedBook (book ++ frame (item_rec x)) (with_item b x)
joins {book} {b} a few x allowed accepted =
    record {
      allowed =
          record {
            device = a.allowed.device;
            weighed = a.allowed.weighed;
            each_move = a.allowed.each_move;
            rising = a.allowed.rising;
            each_item = each_append (AllowedItem (device_of b)) (items_of b) (x ∷ []) a.allowed.each_item (allowed, tt);
            few = omega (arith, length-append (items_of b) (x ∷ []), few);
          };
      bytes = joined_bytes b x ∙ ap (λ (s : List ℕ). s ++ frame (item_rec x)) a.bytes;
      accepted = each_append (Accepted (device_of b)) (items_of b) (x ∷ []) a.accepted (accepted, tt);
    }

pub found_joins : (ρ : Compiled) → FindClaims ρ → Always find.ended ρ (on_find FoundJoins)
found_joins ρ c =
    weaker find.ended ρ (on_find FoundCommands) (on_find FoundJoins)
    (λ κs a r e f z b accepted few. let k = (f.first z b accepted).makes in joins accepted few _ k.allowed k.accepted) c.commands

-- with an empty phi or psi an item may be held, and can never be used
no_use : (d : Device) (q : Sought) (cs : List ℕ) → (q.phi ≡ 0) ⊎ (q.psi ≡ 0) → Makes d q cs → ⊥
no_use d q cs (inl none) k = let (S, E, s, t, l) = k.accepted.effective in in_zero E (rw none at t)
no_use d q cs (inr none) k = let (S, E, s, t, l) = k.accepted.effective in in_zero S (rw none at s)

abbrev EmptyMask : Find
EmptyMask book q table r table' =
    2048 ≤ length table → (b : Book) → AcceptedBook book b → MayHold (device_of b) q → (q.phi ≡ 0) ⊎ (q.psi ≡ 0) → r.code ≡ 15

pub empty-mask : (ρ : Compiled) → FindClaims ρ → Always find.ended ρ (on_find EmptyMask)
empty-mask ρ c =
    weaker find.ended ρ (on_find FindsNone) (on_find EmptyMask)
    (λ κs a r e z long b accepted hold none. z.1 (long, (b, accepted, hold, λ cs k. no_use (device_of b) (sought _ _ _) cs none k))) c.fifteen

-- over 8 forward commands are no item's
abbrev TooMany : Find
TooMany book q table r table' = 2048 ≤ length table → (b : Book) → AcceptedBook book b → 8 < length q.forward → r.code ≡ 14

pub nine-forward : (ρ : Compiled) → FindClaims ρ → Always find.ended ρ (on_find TooMany)
nine-forward ρ c =
    weaker find.ended ρ (on_find FindsBarred) (on_find TooMany)
    (λ κs a r e z long b accepted many. z.1 (long, (b, accepted, λ (cs, allowed). omega (arith, allowed.most)))) c.fourteen

-- an item of the book has a reverse
abbrev sought_by : Item → Sought
sought_by x = sought x.forward x.phi x.psi

abbrev OwnFound : Find
OwnFound book q table r table' =
    2048 ≤ length table → (b : Book) → AcceptedBook book b → (i : ℕ) → i < length (items_of b) → length (item (items_of b) i).reverse ≤ 3
    → q ≡ sought_by (item (items_of b) i) → r.code ≡ 0

own_makes : {book : List ℕ} {b : Book} → AcceptedBook book b → (i : ℕ) → i < length (items_of b) → length (item (items_of b) i).reverse ≤ 3
    → Makes (device_of b) (sought_by (item (items_of b) i)) (item (items_of b) i).reverse
own_makes {b = b} a i l few =
    record {
      short = few;
      allowed = each_at (AllowedItem (device_of b)) (items_of b) a.allowed.each_item i _ l;
      accepted = each_at (Accepted (device_of b)) (items_of b) a.accepted i _ l;
    }

pub own_found : (ρ : Compiled) → FindClaims ρ → Always find.ended ρ (on_find OwnFound)
own_found ρ c =
    weaker find.ended ρ (on_find FindsZero) (on_find OwnFound)
    (λ κs a r e z long b accepted i l few same. z.1 (long, (b, accepted, ((item (items_of b) i).reverse, subst⁻¹ (λ (q : Sought). Makes (device_of b) q (item (items_of b) i).reverse) same (own_makes accepted i l few)))))
    c.zero

-- what checking turns down with 8 is turned down so, at the same place
abbrev TurnedDown : Find
TurnedDown book q table r table' =
    (slots weights : List ℕ) (c : Checking) (l' : Lent) → Checks book (lent table slots weights) c l' → 2176 ≤ length slots → 32 ≤ length weights
    → c.code ≡ 8 → (r.code ≡ 8) × (r.place ≡ c.place)

pub turned_down : (ρ : Compiled) → FindClaims ρ → Always find.ended ρ (on_find TurnedDown)
turned_down ρ c =
    weaker find.ended ρ (on_find FoundAsChecking) (on_find TurnedDown)
    (λ κs a r e x slots weights k l' y long enough eight.
    let same = (x slots weights k l' y long enough).1 (λ z. omega (arith, z, eight)) in
    (ap (λ (f : Found). f.code) same ∙ eight, ap (λ (f : Found). f.place) same)) c.as_checking

-- on a refusal no command is given, and else at most 3
pub refused-commands : {book : List ℕ} {q : Sought} {table : List ℕ} {r : Found} {table' : List ℕ} → FoundCommands book q table r table'
    → (r.code ≡ 0 → ⊥) → (i : ℕ) → get_or r.commands i 0 ≡ 0
refused-commands x n i = x.unused i (omega (arith, x.refused n))

pub few-commands : {book : List ℕ} {q : Sought} {table : List ℕ} {r : Found} {table' : List ℕ} → FoundCommands book q table r table'
    → length (take r.count r.commands) ≤ 3
few-commands {r = r} x = rw (length-take r.count r.commands) (omega (arith, min-le_left r.count (length r.commands), x.at_most))
