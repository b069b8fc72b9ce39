-- The contract of assembling gives what 01 says, of books, runs, histories and chains. Assumes nothing.
use mathlib.Core.Path.{◌≡◌, refl, sym, ap, ◌∙◌, subst₂}
use mathlib.Core.Bool.{Bool, true, false, false≢true}
use mathlib.Core.List.{List, [], ◌∷◌}
use Prim.Native.Nat.{ℕ, ◌*◌, ◌≤◌, ◌<◌}
use native.Mathlib.Decide.{dec_lt}
use native.Mathlib.Nat.{le_trans, mul_comm, mul-le-mul_left}
use native.Mathlib.Omega.{arith}
use lib.ListN.{length}
use Rattle.base.specs.Lists.{Each, Bytes}
use Rattle.base.specs.Sizes.{LongEnough}
use Rattle.base.proofs.Picks as picks
use Rattle.base.proofs.Sizes.{long_or_not}
use Rattle.base.proofs.Lists.{each_at, stored}
use Rattle.reversal.specs.Device.{Device}
use Rattle.reversal.specs.Reversal.{Item, AllowedItem}
use Rattle.reversal.specs.Runs.{Run, AllowedRun, last}
use Rattle.reversal.specs.Chains.{Leg, absent, lower, Chain, legs_of}
use Rattle.reversal.specs.Answers.{Allowed, Answer, Answers, no-history, no_chain, done}
use Rattle.reversal.proofs.Assembling.{plan-most, answer-right}
use Rattle.book.specs.Book.{Book, device_of, items_for}
use Rattle.book.proofs.Device.{device_proper}
use Rattle.checker.specs.declared.Checking.{Checking}
use Rattle.reader.specs.Reads as reads
use Rattle.checker.specs.Checks.{Checked, with_units}
use Rattle.checker.specs.Contract.{check_by, units_by, CheckingOf, CheckAs}
use Rattle.reader.specs.Contract.{filled_by}
use Rattle.reader.proofs.Exactly.{filled}
use Rattle.checker.proofs.Exactly.{checks}
use Rattle.checker.proofs.Onward.{BookAccepted, book-accepted, checked_by, unchecked_by}
use Rattle.runs.specs.RunBytes.{run_bytes}
use Rattle.runs.specs.Computed.{run_of, run_faulty}
use Rattle.runs.proofs.Formed.{run_value, run_formed}
use Rattle.assembly.specs.Asked.{Asked}
use Rattle.assembly.specs.declared.Assembly.{Assembly}
use Rattle.assembly.specs.Lent.{legs_bytes, LegForm, in_bytes, Room, AllLent, all_sizes}
use Rattle.assembly.specs.Assembles.{refusal, result_of, Left, Assembles, short, unaccepted, faulty, answered}
use Rattle.assembly.specs.Contract.{answer_of, planned_by, plan_by, PlannedAs, AssembleAs}

-- ---- a chain has at most one item for each point passed
module _ (d : Device) (r : Run) (items : List Item) (each : Each (AllowedItem d) items) where
  pub chain-most : (xs : List ℕ) (j : ℕ) → Chain d r items j xs → length xs ≤ j
  chain-most [] j c = omega arith
  chain-most (a ∷ xs) j c =
      omega (arith, chain-most xs (lower items j a) c.2, c.1.room, (each_at (AllowedItem d) items each a absent c.0).some)

pub length-legs : (items : List Item) (xs : List ℕ) (j : ℕ) → length (legs_of items j xs) ≡ length xs
length-legs items [] j = refl
length-legs items (a ∷ xs) j = omega (arith, length-legs items xs (lower items j a))

-- ---- a form holds each leg in as many elements
abbrev pub Even : {E : Type 0} → LegForm E → Type 0
Even form = (ls : List Leg) → length (form.held ls) ≡ form.width * length ls

pub even-bytes : Even in_bytes
unfolding legs_bytes
even-bytes [] = refl
even-bytes (l ∷ ls) = omega (arith, even-bytes ls)

-- what is answered fits in plan and legs
pub record Small (a : Answer) : Type 0 where
  pub plan-small : length a.plan-bytes ≤ 256
  pub legs-small : length a.plan-legs ≤ 32
  pub legs_counted : length a.plan-legs ≡ a.leg-count

module _ (d : Device) (ws : List ℕ) (items : List Item) (r : Run) (ok : Allowed d ws items r) where
  pub answer-small : (a : Answer) → Answers d ws items r a → Small a
  answer-small a (no-history n e) = rw e (record { plan-small = omega arith; legs-small = omega arith; legs_counted = refl })
  answer-small a (no_chain h u n ns q e) = rw e (record { plan-small = omega arith; legs-small = omega arith; legs_counted = refl })
  answer-small a (done h u xs best ns q e) =
      let p = plan-most d ws items r ok xs (last r) best.chain in
      let l = chain-most d r items ok.each xs (last r) best.chain in
      let counted = length-legs items xs (last r) in
      rw e (record { plan-small = omega (arith, ok.run.short); legs-small = omega (arith, ok.run.short, counted); legs_counted = counted })

pub held_small : {E : Type 0} (form : LegForm E) → Even form → (ls : List Leg) → length ls ≤ 32 → length (form.held ls) ≤ 32 * form.width
held_small form even ls l = subst₂ (λ (x y : ℕ). x ≤ y) (sym (even ls)) (mul_comm form.width 32) (mul-le-mul_left form.width l)

-- ---- the call
-- whatever is made of it, it comes to a refusal, or to an answer
abbrev pub Refuses : Asked → ℕ → ℕ → Type 1
Refuses ask code place = (A : Type 0) (refuse : ℕ → ℕ → A) (fine : Answer → A) → plan_by ask refuse fine ≡ refuse code place

abbrev pub Gives : Asked → Answer → Type 1
Gives ask a = (A : Type 0) (refuse : ℕ → ℕ → A) (fine : Answer → A) → plan_by ask refuse fine ≡ fine a

pub data Outcome (ask : Asked) : Type 1 where
  refused : (code place : ℕ) → Refuses ask code place → Outcome ask
  given : (a : Answer) → Small a → Gives ask a → Outcome ask

module _ (ask : Asked) (bytes : Bytes ask.book) (bytes_of_run : Bytes ask.run) where
  -- checking, as far as it went
  abbrev f : Checking
  f = with_units (check_by ask.book reads.refusal reads.done) (units_by ask.book)

  checked : CheckingOf ask.book f
  checked = record { bytes = bytes; result = refl }

  module _ (z : f.code ≡ 0) where
    abbrev g : BookAccepted ask.book f
    g = book-accepted checked z

    abbrev b : Book
    b = g.book

    planned : {A : Type 0} (refuse : ℕ → ℕ → A) (fine : Answer → A) → plan_by ask refuse fine ≡ planned_by ask refuse fine b
    unfolding plan_by
    planned refuse fine = checked_by checked _ _ g

  -- the ways of a call, in their order: what checking refuses; a faulty run; an answer
  data Way : Type 1 where
    by_check : (f.code ≡ 0 → ⊥) → Refuses ask f.code f.place → Way
    by_run : (z : f.code ≡ 0) → run_faulty (b z).n (b z).m ask.run ≡ true → Refuses ask 9 0 → Way
    by_answer : (z : f.code ≡ 0) → run_faulty (b z).n (b z).m ask.run ≡ false → Gives ask (answer_of (b z) ask) → Way

  on_run : (z : f.code ≡ 0) (y : Bool) → run_faulty (b z).n (b z).m ask.run ≡ y → Way
  on_run z true e = by_run z e (λ A refuse fine. planned z refuse fine ∙ sym (picks.yes _ _ _ _ e refl))
  on_run z false e = by_answer z e (λ A refuse fine. planned z refuse fine ∙ sym (picks.no _ _ _ _ e refl))

  way : Way
  unfolding plan_by
  way = go (dec_lt 0 f.code)
    where
      go : Dec (0 < f.code) → Way
      go (yes h) = let n : f.code ≡ 0 → ⊥ = λ e. omega arith in by_check n (λ A refuse fine. unchecked_by checked _ _ n)
      go (no h) = on_run (omega arith) _ refl

  -- an answer to an accepted book and a run that is fine
  module _ (z : f.code ≡ 0) (e : run_faulty (b z).n (b z).m ask.run ≡ false) where
    abbrev dev : Device
    dev = device_of (b z)

    abbrev ws : List ℕ
    ws = (b z).weights

    abbrev items : List Item
    items = items_for (b z)

    fine-run : AllowedRun dev (run_of ask.run) × (run_bytes (run_of ask.run) ≡ ask.run)
    fine-run = run_value dev ask.run bytes_of_run e

    allowed : Allowed dev ws items (run_of ask.run)
    allowed =
        let ok = (g z).accepted.allowed in
        record { device = device_proper (b z) ok; weights = ok.weighed; each = ok.each_item; run = fine-run.0 }

    right : Answers dev ws items (run_of ask.run) (answer_of (b z) ask)
    right = answer-right dev ws items (run_of ask.run) allowed

    small : Small (answer_of (b z) ask)
    small = answer-small dev ws items (run_of ask.run) allowed (answer_of (b z) ask) right

  pub outcome : Outcome ask
  outcome = go way
    where
      go : Way → Outcome ask
      go (by_check n q) = refused f.code f.place q
      go (by_run z e q) = refused 9 0 q
      go (by_answer z e q) = given (answer_of (b z) ask) (small z e) q

  -- with lent buffers that are long enough
  module _ {E : Type 0} {form : LegForm E} (even : Even form) (l : AllLent E) (r : Assembly) (l' : AllLent E) (long : LongEnough (all_sizes form l))
      (p : PlannedAs form ask l.room r l'.room) (k : l'.read ≡ filled_by ask.book l.read) where
    read_is : CheckAs ask.book l.read f l'.read
    read_is = record { bytes = bytes; short = λ n. absurd (n long.1.1); enough = λ _. (checked, k) }

    checked-is : (z : f.code ≡ 0) → Checked ask.book l.read (b z) l'.read
    checked-is z =
        let ok = (g z).accepted in
        record { filled = filled k long.1.1 ok.allowed ok.bytes (g z).parsed; accepted = ok.accepted }

    left : (a : Answer) → Small a → Gives ask a → Left form a l.room r l'.room
    left a s q =
        let e = p.room_is ∙ q _ _ _ in
        record {
          result_is = p.result ∙ q _ _ _;
          plan_written = stored _ l.room.plan _ (omega (arith, long.0, s.plan-small)) (ap (λ (x : Room E). x.plan) e);
          legs_written = stored _ l.room.legs _ (le_trans (held_small form even _ s.legs-small) long.1.0) (ap (λ (x : Room E). x.legs) e);
        }

    assembled : Way → Assembles form ask l r l'
    assembled (by_check n q) = unaccepted long (checks read_is) n (p.result ∙ q _ _ _) (p.room_is ∙ q _ _ _)
    assembled (by_run z e q) =
        let high = (g z).accepted.allowed.device.n_high in
        faulty long (b z) (checked-is z) (λ w. false≢true (sym ((run_formed (device_of (b z)) ask.run high bytes_of_run).1 w) ∙ e)) (p.result ∙ q _ _ _)
        (p.room_is ∙ q _ _ _)
    assembled (by_answer z e q) =
        let (ok, same) = fine-run z e in
        answered long (b z) (checked-is z) (run_of ask.run) ok same (answer_of (b z) ask) (right z e) (left (answer_of (b z) ask) (small z e) q)

module _ {E : Type 0} {form : LegForm E} {ask : Asked} {l : AllLent E} {r : Assembly} {l' : AllLent E} where
  -- there are never more legs than the buffer has room for
  pub legs-few : AssembleAs form ask l r l' → r.legs ≤ 32
  legs-few c = go (long_or_not (all_sizes form l))
    where
      legs_of_lem : {x : Assembly} → r ≡ x → r.legs ≡ x.legs
      legs_of_lem e = ap (λ (y : Assembly). y.legs) e

      on_outcome : PlannedAs form ask l.room r l'.room → Outcome ask → r.legs ≤ 32
      on_outcome p (refused code place q) = omega (arith, legs_of_lem (p.result ∙ q Assembly refusal result_of))
      on_outcome p (given a small q) = omega (arith, legs_of_lem (p.result ∙ q Assembly refusal result_of), small.legs-small, small.legs_counted)

      go : Dec (LongEnough (all_sizes form l)) → r.legs ≤ 32
      go (no n) = omega (arith, legs_of_lem (c.short n).0)
      go (yes h) = let p = (c.enough h).0 in on_outcome p (outcome ask p.bytes p.bytes_of_run)

  pub assembles : Even form → AssembleAs form ask l r l' → Assembles form ask l r l'
  assembles even c = go (long_or_not (all_sizes form l))
    where
      go : Dec (LongEnough (all_sizes form l)) → Assembles form ask l r l'
      go (no n) = let (e, k) = c.short n in short n e k
      go (yes h) =
          let (p, k) = c.enough h in
          assembled ask p.bytes p.bytes_of_run even l r l' h p k (way ask p.bytes p.bytes_of_run)
