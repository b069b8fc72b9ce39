-- The ways through assembling, over checking's contract. Assumes nothing.
use mathlib.Core.Path.{◌≡◌, refl, sym, ap, ap₂, ◌∙◌, subst, subst₂}
use mathlib.Core.Bool.{true, false, not}
use borrow.Author.Tests.{not-true}
use mathlib.Core.List.{List}
use Prim.Native.Nat.{ℕ, ◌≤◌, ◌<◌}
use native.Mathlib.Omega.{arith}
use lib.ListN.{length, get_or}
use Rattle.base.specs.Lists.{Bytes}
use Rattle.base.specs.Sizes.{LongEnough}
use Rattle.base.proofs.Picks as picks
use Rattle.base.proofs.Lists.{each_at}
use Rattle.reversal.specs.Device.{Device}
use Rattle.reversal.specs.Reversal.{Item, AllowedItem}
use Rattle.reversal.specs.Runs.{AllowedRun, last}
use Rattle.reversal.specs.Chains.{absent, none}
use Rattle.reversal.specs.Answers.{Allowed}
use Rattle.book.specs.Book.{Book, device_of, items_for}
use Rattle.book.specs.Lent.{Lent}
use Rattle.book.proofs.Device.{device_proper}
use Rattle.items.specs.Items.{Placed}
use Rattle.items.proofs.Laws.{placed_items}
use Rattle.checker.specs.declared.Checking.{Checking}
use Rattle.checker.specs.Contract.{CheckingOf, CheckAs}
use Rattle.checker.proofs.Onward.{BookAccepted, book-accepted, checked_by, unchecked_by, check_long}
use Rattle.runs.specs.Computed.{last_of, run_of, run_faulty}
use Rattle.runs.proofs.Points.{last-is}
use Rattle.runs.proofs.Formed.{run_value}
use Rattle.assembly.specs.Asked.{Asked}
use Rattle.assembly.specs.declared.Assembly.{Assembly}
use Rattle.chains.specs.declared.Counts.{Counts}
use Rattle.points.specs.Believed.{Believed, BeliefsAs}
use Rattle.points.specs.Items.{k_of, ItemsOf, recorded, WeightsOf}
use Rattle.points.specs.Links.{links_of, Moving, Short, Numbered, PointsAs}
use Rattle.chains.specs.ChainFollowed.{Walked}
use Rattle.assembly.specs.Lent.{in_bytes, Room, AllLent, room_sizes, all_sizes}
use Rattle.assembly.specs.Small.{beside}
use Rattle.assembly.specs.Assembles.{refusal, result_of}
use Rattle.assembly.specs.Contract.{answer_of, planned_by, plan_by, room_of, PlannedAs, AssembleAs, Lending}
use Rattle.assembly.proofs.AnswerReached as reached
use Rattle.assembly.proofs.AnswerReached.{Stored, counted, ChainFound}

-- ---- a short buffer
pub short-refused : {ask : Asked} {l : AllLent ℕ} {r : Assembly} → Bytes ask.book → (LongEnough (all_sizes in_bytes l) → ⊥) → r ≡ refusal 1 0
    → AssembleAs in_bytes ask l r l
short-refused bytes n e = record { bytes = bytes; short = λ _. (e, refl); enough = λ h. absurd (n h) }

-- ---- checking refuses
pub not-accepted : {ask : Asked} {f : Checking} {r : Assembly} {room : Room ℕ} → CheckingOf ask.book f → Bytes ask.run → (f.code ≡ 0 → ⊥)
    → r ≡ refusal f.code f.place → PlannedAs in_bytes ask room r room
unfolding plan_by
not-accepted c bytes_of_run n e =
    record { bytes = c.bytes; bytes_of_run = bytes_of_run; result = e ∙ sym (unchecked_by c _ _ n); room_is = sym (unchecked_by c _ _ n) }

-- ---- the book is accepted
module _ {book : List ℕ} {f : Checking} (c : CheckingOf book f) (z : f.code ≡ 0) where
  abbrev g : BookAccepted book f
  g = book-accepted c z

  abbrev b : Book
  b = g.book

  n-is : f.n ≡ b.n
  n-is = ap (λ (x : Checking). x.n) g.result

  m-is : f.m ≡ b.m
  m-is = ap (λ (x : Checking). x.m) g.result

  items-is : f.items ≡ length (items_for b)
  items-is = ap (λ (x : Checking). x.items) g.result

  -- what the passes ask
  pub limits : (f.n ≤ 64) × (f.m ≤ 32) × (f.items ≤ 64)
  limits =
      let d = g.accepted.allowed.device in
      (omega (arith, n-is, d.n_high), omega (arith, m-is, d.m_high), omega (arith, items-is, g.accepted.allowed.few))

  -- the items are the book's
  module _ {places : List ℕ} (placed : Placed book places) where
    fields : ItemsOf (items_for b) (recorded book places)
    fields = placed_items placed b g.accepted.allowed g.accepted.bytes

    forward-few : (a : ℕ) → a < f.items → (1 ≤ k_of (recorded book places) a) × (k_of (recorded book places) a ≤ 8)
    forward-few a l =
        let known = subst (λ (n : ℕ). a < n) items-is l in
        let k = ap (λ (x : Item). length x.forward) (fields a known) in
        let x = each_at (AllowedItem (device_of b)) (items_for b) g.accepted.allowed.each_item a absent known in
        (omega (arith, k, x.some), omega (arith, k, x.most))

    pub movable : Moving (recorded book places) f.items
    movable a l = (forward-few a l).0

    pub short : Short (recorded book places) f.items
    short a l = (forward-few a l).1

  faulty-is : (run : List ℕ) → run_faulty b.n b.m run ≡ run_faulty f.n f.m run
  faulty-is run = ap₂ (λ (n m : ℕ). run_faulty n m run) (sym n-is) (sym m-is)

-- what is made of its run is the answer
after_check : {ask : Asked} {f : Checking} {r : Assembly} {room room' : Room ℕ} (c : CheckingOf ask.book f) (z : f.code ≡ 0) → Bytes ask.run
    → r ≡ planned_by ask refusal result_of (b c z) → room' ≡ planned_by ask (λ code place. room) (room_of in_bytes room) (b c z)
    → PlannedAs in_bytes ask room r room'
unfolding plan_by
after_check c z bytes_of_run result room_is =
    record {
      bytes = c.bytes;
      bytes_of_run = bytes_of_run;
      result = result ∙ sym (checked_by c _ _ (g c z));
      room_is = room_is ∙ sym (checked_by c _ _ (g c z));
    }

pub run-refused : {ask : Asked} {f : Checking} {r : Assembly} {room : Room ℕ} → CheckingOf ask.book f → f.code ≡ 0 → Bytes ask.run
    → run_faulty f.n f.m ask.run ≡ true → r ≡ refusal 9 0 → PlannedAs in_bytes ask room r room
run-refused {ask} c z bytes_of_run e p =
    let y = faulty-is c z ask.run ∙ e in
    after_check c z bytes_of_run (picks.yes _ _ _ _ y p) (picks.yes _ _ _ _ y refl)

-- ---- with lent buffers: plan and legs are long enough, and the book was checked
module _ {ask : Asked} {l : AllLent ℕ} {f : Checking} {read : Lent} {r : Assembly} (k : CheckAs ask.book l.read f read)
    (long : LongEnough (room_sizes in_bytes l.room)) where
  pub lent-refused : Bytes ask.run → (f.code ≡ 0 → ⊥) → r ≡ refusal f.code f.place → AssembleAs in_bytes ask l r (beside l.room read)
  lent-refused bytes_of_run n e =
      record {
        bytes = k.bytes;
        short =
            λ m.
            let (q, w) = k.short (λ h. m (long.0, (long.1.0, h))) in
            (e ∙ ap (λ (x : Checking). refusal x.code x.place) q, ap (beside l.room) w);
        enough = λ h. let (c, w) = k.enough h.1.1 in (not-accepted c bytes_of_run n e, w);
      }

  pub lent-planned : {room : Room ℕ} → f.code ≡ 0 → PlannedAs in_bytes ask l.room r room → AssembleAs in_bytes ask l r (beside room read)
  lent-planned z p =
      let h = check_long k z in
      record { bytes = k.bytes; short = λ n. absurd (n (long.0, (long.1.0, h))); enough = λ _. (p, (k.enough h).1) }

-- ---- the book is accepted and the run is fine
pub record FineRun (ask : Asked) (d : Device) (W : List ℕ) (f : Checking) : Type 0 where
  pub bytes_of_run : Bytes ask.run
  pub lends : Lending ask.book d W f
  pub fine : run_faulty f.n f.m ask.run ≡ false

pub fine_run : {ask : Asked} {d : Device} {W : List ℕ} {f : Checking} → Bytes ask.run → Lending ask.book d W f
    → not (run_faulty f.n f.m ask.run) ≡ true → FineRun ask d W f
fine_run bytes lends e = record { bytes_of_run = bytes; lends = lends; fine = not-true _ e }

module _ {ask : Asked} {d : Device} {W : List ℕ} {f : Checking} (w : FineRun ask d W f) where
  abbrev h : CheckingOf ask.book f
  h = w.lends.checked

  abbrev z : f.code ≡ 0
  z = w.lends.accepted

  abbrev given : BookAccepted ask.book f
  given = book-accepted h z

  abbrev B : Book
  B = given.book

  fine : run_faulty B.n B.m ask.run ≡ false
  fine = faulty-is h z ask.run ∙ w.fine

  run_ok : AllowedRun (device_of B) (run_of ask.run)
  run_ok = (run_value (device_of B) ask.run w.bytes_of_run fine).0

  allowed : Allowed (device_of B) B.weights (items_for B) (run_of ask.run)
  allowed =
      let ok = given.accepted.allowed in
      record { device = device_proper B ok; weights = ok.weighed; each = ok.each_item; run = run_ok }

  weighed : WeightsOf B.m B.weights W
  weighed = w.lends.weighed B given.accepted

  pub low : last_of ask.run ≤ 32
  low = omega (arith, last-is ask.run, run_ok.short)

  -- the passes, within the limits of devices and runs
  pub believing : {zeros sets : List ℕ} → BeliefsAs d ask.run zeros sets → 33 ≤ length zeros → Believed d (run_of ask.run) sets
  believing c long =
      let e = w.lends.device B given.accepted in
      let ok = given.accepted.allowed.device in
      c.believed (omega (arith, ap (λ (v : Device). v.n) e, ok.n_high)) (omega (arith, ap (λ (v : Device). v.m) e, ok.m_high)) low long

  -- with the answer stored
  answered : {r : Assembly} {room room' : Room ℕ} → Stored (answer_of B ask) room r room' → PlannedAs in_bytes ask room r room'
  answered s = after_check h z w.bytes_of_run (picks.no _ _ _ _ fine s.result_is) (picks.no _ _ _ _ fine s.room_is)

  module _ {beliefs : List ℕ} (believed : Believed d (run_of ask.run) beliefs) where
    held : Believed (device_of B) (run_of ask.run) beliefs
    held = subst (λ (v : Device). Believed v (run_of ask.run) beliefs) (w.lends.device B given.accepted) believed

    pub no_state : get_or beliefs 0 0 ≡ 0 → {r : Assembly} {room : Room ℕ} → r ≡ refusal 10 0 → PlannedAs in_bytes ask room r room
    no_state s {room = room} p = answered (reached.no_state (device_of B) B.weights (items_for B) ask.run allowed beliefs held room s p)

-- ---- some state is possible and the numbers are known
pub record NumbersKnown (beliefs : List ℕ) (i : ℕ) (places fewest firsts : List ℕ) (ask : Asked) (d : Device) (W : List ℕ)
    (f : Checking) : Type 0 where
  pub fine-run : FineRun ask d W f
  pub believed : Believed d (run_of ask.run) beliefs
  pub some : get_or beliefs 0 0 ≡ 0 → ⊥
  pub last_point_lem : i ≡ last_of ask.run
  pub placed : Placed ask.book places
  pub num : Numbered (links_of (recorded ask.book places) W ask.run beliefs f.items) i fewest firsts

pub numbers-known : {ask : Asked} {d : Device} {W : List ℕ} {f : Checking} {beliefs : List ℕ} {i : ℕ} {places fewest firsts : List ℕ} (w : FineRun ask d W f)
    → Believed d (run_of ask.run) beliefs → (get_or beliefs 0 0 ≡ 0 → ⊥) → i ≡ last_of ask.run → Placed ask.book places
    → PointsAs (recorded ask.book places) W ask.run beliefs f.items i fewest firsts → NumbersKnown beliefs i places fewest firsts ask d W f
numbers-known w believed some e placed p =
    let c = w.lends.checked in
    let z = w.lends.accepted in
    record {
      fine-run = w;
      believed = believed;
      some = some;
      last_point_lem = e;
      placed = placed;
      num = p.numbered (limits c z).2 (omega (arith, low w, e)) (movable c z placed) (short c z placed);
    }

module _ {beliefs : List ℕ} {i : ℕ} {places fewest firsts : List ℕ} {ask : Asked} {d : Device} {W : List ℕ} {f : Checking}
    (k : NumbersKnown beliefs i places fewest firsts ask d W f) where
  abbrev w : FineRun ask d W f
  w = k.fine-run

  i_is : i ≡ last (run_of ask.run)
  i_is = k.last_point_lem ∙ last-is ask.run

  num' : Numbered (links_of (recorded ask.book places) W ask.run beliefs (length (items_for (B w)))) (last (run_of ask.run)) fewest firsts
  num' = subst₂ (λ (n j : ℕ). Numbered (links_of (recorded ask.book places) W ask.run beliefs n) j fewest firsts) (items-is (h w) (z w)) i_is k.num

  number_is : get_or fewest i 0 ≡ get_or fewest (last (run_of ask.run)) 0
  number_is = ap (λ (j : ℕ). get_or fewest j 0) i_is

  pub no_number : get_or fewest i 0 ≡ none → {room : Room ℕ}
      → PlannedAs in_bytes ask room (record { code = 11; place = 0; commands = 0; legs = 0; sum = 0; fewest = fewest }) room
  no_number s {room} =
      answered w
      (reached.no_chain (device_of (B w)) (B w).weights (items_for (B w)) ask.run (allowed w) beliefs (held w k.believed) room (recorded ask.book places)
      (fields (h w) (z w) k.placed) W (weighed w) k.some num' (sym number_is ∙ s))

  module _ (number : get_or fewest i 0 ≡ none → ⊥) (room : Room ℕ) where
    pub found : ChainFound (recorded ask.book places) fewest firsts room (answer_of (B w) ask) i
    found =
        subst (ChainFound (recorded ask.book places) fewest firsts room (answer_of (B w) ask)) (sym i_is)
        (reached.chain-found (device_of (B w)) (B w).weights (items_for (B w)) ask.run (allowed w) beliefs (held w k.believed) room (recorded ask.book places)
        (fields (h w) (z w) k.placed) W (weighed w) k.some num' (λ e. number (number_is ∙ e)))

    pub written : {counts : Counts} {room' : Room ℕ} → Walked (recorded ask.book places) firsts i room.plan room.legs counts room'.plan room'.legs
        → PlannedAs in_bytes ask room (counted counts.commands counts.legs (get_or fewest i 0) fewest) room'
    written x = answered w (found.stored x)
