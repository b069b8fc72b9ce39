-- Assembling at both sides of its lengths and each of its codes, for either form of the legs and with a scratch: by the tables of values, for what 01 and
-- 02 say of assembling leaves no other answer. Assumes nothing.
use mathlib.Core.Path.{◌≡◌, refl, sym, ap, ◌∙◌, subst}
use mathlib.Core.Bool.{true}
use mathlib.Core.List.{List, [], ◌∷◌}
use Prim.Native.Nat.{ℕ, suc, ◌*◌, ◌<◌}
use native.Mathlib.Omega.{arith}
use lib.Dec.{lit<, lit≤}
use lib.ListN.{replicate, length-replicate}
use Rattle.base.specs.Sets.{NoBitFrom}
use Rattle.base.specs.Lists.{Bytes, Written}
use Rattle.base.specs.Sizes.{LongEnough}
use Rattle.base.specs.Tests.{pick, both, imp}
use Rattle.base.specs.Compare.{less, same}
use Rattle.base.specs.Bounded.{all, any, union, least, seek}
use Rattle.base.specs.Cardinality.{member}
use Rattle.base.specs.Masks.{clear_from, inside}
use Rattle.base.proofs.Masks.{clear↔}
use Rattle.base.proofs.Parts.{each-replicate}
use Rattle.reversal.specs.Device.{Device}
use Rattle.reversal.specs.Runs.{Run, AllowedRun}
use Rattle.reversal.specs.Answers.{Answer, Answers}
use Rattle.reversal.specs.Twelve.{Q, run}
use Rattle.reversal.specs.Slips.{P}
use Rattle.reversal.specs.Computed.Sets.{after}
use Rattle.reversal.specs.Computed.Beliefs.{filtered, preimage, smoothed, belief}
use Rattle.reversal.specs.Computed.Least.{via, leasts, least_at, begins, chosen}
use Rattle.reversal.specs.Computed.Assembly.{same_list, fits, numbers, answer}
use Rattle.reversal.proofs.Assembling.{answer-right}
use Rattle.reversal.proofs.Slips.{ok_phi, ok_psi, ok_tie, slips}
use Rattle.reversal.proofs.Longest.{ok_long, longest}
use Rattle.octets.specs.Le.{bytes_le}
use Rattle.book.specs.Book.{Book, device_of, items_for, outcome_of, frame, two_bytes, all_one, weights_recs}
use Rattle.book.specs.Limits.{all_below}
use Rattle.book.specs.Lent.{Lent, lent}
use Rattle.book.specs.Refusal.{Refusal}
use Rattle.book.specs.Example.{book_q}
use Rattle.book.specs.Further.{book_p, bytes_p, book_phi, bytes_phi, book_psi, bytes_psi, book_tie, bytes_tie, book_long, bytes_long}
use Rattle.book.proofs.Fields.{all_on}
use Rattle.book.proofs.Device.{device_proper}
use Rattle.book.proofs.Unique.{one-book}
use Rattle.book.proofs.Example.{device-book_q, spoilt}
use Rattle.book.proofs.Further.{device-book_p}
use Rattle.reader.specs.Reads.{faulty as read-faulty}
use Rattle.reader.specs.Edges.{Stated, UnevenRead}
use Rattle.reader.proofs.Edges.{stated-long, shorter_short}
use Rattle.reader.proofs.Cases.{bytes_q_lem}
use Rattle.checker.specs.declared.Checking.{Checking}
use Rattle.checker.specs.Checks.{AcceptedBook, unread, fine}
use Rattle.checker.specs.Edges as check-cases
use Rattle.checker.proofs.Unique.{checked-fine}
use Rattle.checker.proofs.Cases.{accepted_q}
use Rattle.checker.proofs.Edges as check-edges
use Rattle.runs.specs.RunBytes.{run_bytes, RunFormed}
use Rattle.runs.proofs.Edges as run-edges
use Rattle.runs.proofs.Example as run-cases
use Rattle.assembly.specs.Asked.{asked}
use Rattle.assembly.specs.declared.Assembly.{Assembly}
use Rattle.assembly.specs.Lent.{LegForm, in_bytes, Room, AllLent, all_sizes}
use Rattle.assembly.specs.Assembles.{refusal, result_of, Assembles, short, unaccepted, faulty, answered}
use Rattle.assembly.specs.Small.{small_sizes, AssemblesSmall}
use Rattle.assembly.specs.Small as small
use Rattle.assembly.specs.Demand.{Given}
use Rattle.assembly.specs.Cases.{BytesGive}
use Rattle.assembly.specs.Edges.{AllStated, plan_255, legs_fewer, AnyShorter, to_read, to_write, Gives, Keeps, KeepsAll, Edges, ScratchStated, ScratchShorter, scratch_63, room_shorter, SmallEdges}
use Rattle.assembly.proofs.Unique.{assembles_unique, left_at}
use Rattle.assembly.proofs.Cases.{give, runs}

-- ---- P's runs
one-allowed : AllowedRun P (run (1 ∷ []) (1 ∷ 3 ∷ []))
unfolding clear_from
one-allowed = record { short = lit≤ tt; points = refl; run_commands = (lit< tt, tt); states = ((clear↔ 2 1).0 tt, ((clear↔ 2 3).0 tt, tt)) }

eight-allowed : AllowedRun P (run (replicate 8 1) (1 ∷ replicate 8 3))
unfolding clear_from
eight-allowed =
    record {
      short = lit≤ tt;
      points = refl;
      run_commands = each-replicate (λ c. c < 3) 8 (lit< tt);
      states = ((clear↔ 2 1).0 tt, each-replicate (NoBitFrom 2) 8 ((clear↔ 2 3).0 tt));
    }

-- what is computed for P is the answer
given_p : (u : Run) (a : Answer) → AllowedRun P u → answer (device_of book_p) book_p.weights (items_for book_p) u ≡ a
    → Answers (device_of book_p) book_p.weights (items_for book_p) u a
given_p u a ok e =
    let al = (check-edges.accepted_p).allowed in
    subst (λ (x : Answer). Answers (device_of book_p) book_p.weights (items_for book_p) u x) e
    (answer-right (device_of book_p) book_p.weights (items_for book_p) u
    (record {
      device = device_proper book_p al;
      weights = al.weighed;
      each = al.each_item;
      run = subst (λ (d : Device). AllowedRun d u) (sym device-book_p) ok;
    }))

module _ {E : Type 0} (form : LegForm E) {elements fewer : ℕ} (width : 32 * form.width ≡ elements) (one_fewer : suc fewer ≡ elements) where
  -- ---- lengths
  all-long : {l : AllLent E} → AllStated elements l → LongEnough (all_sizes form l)
  all-long s = (omega (arith, s.room.plan), (omega (arith, s.room.legs), stated-long s.read))

  any-short : {l : AllLent E} → AnyShorter fewer l → LongEnough (all_sizes form l) → ⊥
  any-short (to_read s) long = shorter_short s long.1.1
  any-short (to_write (plan_255 e)) long = omega (arith, long.0)
  any-short (to_write (legs_fewer e)) long = omega (arith, long.1.0)

  too_short : {book run : List ℕ} {l : AllLent E} {r : Assembly} {l' : AllLent E} → Assembles form (asked book run) l r l' → AnyShorter fewer l
      → (r ≡ refusal 1 0) × (l' ≡ l)
  too_short (short a e k) s = (e, k)
  too_short (unaccepted long x n e w) s = absurd (any-short s long)
  too_short (faulty long b k n e w) s = absurd (any-short s long)
  too_short (answered long b k u al ub an right left) s = absurd (any-short s long)

  -- ---- 0, 10 and 11
  gives : {book : List ℕ} {u : Run} {a : Answer} → BytesGive form book u a
      → Gives form elements book u (result_of a) a.plan-bytes (form.held a.plan-legs)
  gives g = record { result = λ x s. let w = g.left x (all-long s) in (w.result_is, w.plan_written, w.legs_written) }

  gives_p : (u : Run) (a : Answer) → AllowedRun P u → answer (device_of book_p) book_p.weights (items_for book_p) u ≡ a
      → Gives form elements bytes_p u (result_of a) a.plan-bytes (form.held a.plan-legs)
  unfolding all_below pick less
  gives_p u a ok e =
      gives (record { left = λ x long. left_at (all_on 256 bytes_p refl) x long given-run (given_p u a ok e) })
    where
      given-run : Given (asked bytes_p (run_bytes u)) book_p u
      given-run =
          record {
            accepted = check-edges.accepted_p;
            allowed = subst (λ (d : Device). AllowedRun d u) (sym device-book_p) ok;
            bytes_of_run = refl;
          }

  -- ---- 9
  nine_of : {book run : List ℕ} {b : Book} → Bytes book → AcceptedBook book b → (RunFormed (device_of b) run → ⊥) → Keeps form elements book run (refusal 9 0)
  nine_of {book} {run} {b} h a n = record { result = λ x s. go x s }
    where
      go : {l : AllLent E} {r : Assembly} {l' : AllLent E} → Assembles form (asked book run) l r l' → AllStated elements l → (r ≡ refusal 9 0) × (l'.room ≡ l.room)
      go (short k e i) s = absurd (k (all-long s))
      go (unaccepted long x k e w) s = absurd (k (ap (λ (y : Checking). y.code) (checked-fine h x (stated-long s.read) a).0))
      go (faulty long b' k m e w) s = (e, w)
      go (answered long b' k u al ub an right left) s =
          let same-book : b' ≡ b = one-book b' b k.filled.allowed a.allowed (k.filled.bytes ∙ sym a.bytes) in
          absurd (n (u, subst (λ (y : Book). AllowedRun (device_of y) u) same-book al, ub))

  -- ---- 8 and 12: as checking
  as_checked : {book run : List ℕ} {c : Checking} → check-cases.ChecksTo book c → (c.code ≡ 0 → ⊥) → Keeps form elements book run (refusal c.code c.place)
  as_checked {book} {run} {c} j n = record { result = λ x s. go x s }
    where
      go : {l : AllLent E} {r : Assembly} {l' : AllLent E} → Assembles form (asked book run) l r l' → AllStated elements l
          → (r ≡ refusal c.code c.place) × (l'.room ≡ l.room)
      go (short k e i) s = absurd (k (all-long s))
      go (unaccepted long x k e w) s = (e ∙ ap (λ (y : Checking). refusal y.code y.place) (j.result x s.read), w)
      go (faulty long b k m e w) s = absurd (n (sym (ap (λ (y : Checking). y.code) (j.result (fine b k refl) s.read))))
      go (answered long b k u al ub an right left) s = absurd (n (sym (ap (λ (y : Checking). y.code) (j.result (fine b k refl) s.read))))

  -- ---- 2 to 7 and 13: as reading
  as_read : {book run : List ℕ} {code place : ℕ} → all_below 256 book ≡ true → Refusal book code place → (code ≡ 0 → ⊥)
      → KeepsAll form elements book run (refusal code place)
  as_read h g n =
      record {
        result =
            λ x s.
            assembles_unique (all_on 256 _ h) x
            (unaccepted (all-long s) (unread (read-faulty (stated-long s.read) g refl refl) n refl) n refl refl);
      }

  read_p : {run : List ℕ} {l : AllLent E} {r : Assembly} {l' : AllLent E} → Assembles form (asked bytes_p run) l r l' → AllStated elements l
      → UnevenRead l.read l'.read
  read_p (short a e k) s = absurd (a (all-long s))
  read_p (unaccepted long x n e w) s = (check-edges.edges).uneven_read x s.read
  read_p (faulty long b k n e w) s = (check-edges.edges).uneven_read (fine b k refl) s.read
  read_p (answered long b k u al ub an right left) s = (check-edges.edges).uneven_read (fine b k refl) s.read

  pub edges : Edges form elements fewer
  unfolding pick both imp all any union least seek member clear_from inside outcome_of same less after filtered preimage smoothed belief via leasts least_at begins chosen same_list fits numbers answer frame bytes_le two_bytes all_one weights_recs all_below
  edges =
      record {
        q5 = gives (runs form).q5;
        q8 = gives (runs form).q8;
        q11 = gives (runs form).q11;
        uneven = gives_p _ _ one-allowed refl;
        uneven_8 = gives_p _ _ eight-allowed refl;
        phi = gives (give form (all_on 256 bytes_phi refl) book_phi check-edges.accepted_phi_lem device-book_q _ _ ok_phi.run slips.phi);
        psi = gives (give form (all_on 256 bytes_psi refl) book_psi check-edges.accepted_psi_lem device-book_q _ _ ok_psi.run slips.psi);
        tie = gives (give form (all_on 256 bytes_tie refl) book_tie check-edges.accepted_tie_lem device-book_q _ _ ok_tie.run slips.tie);
        long = gives (give form (all_on 256 bytes_long refl) book_long check-edges.accepted_long device-book_q _ _ ok_long.run longest.longest);
        q10 = gives (runs form).q10;
        q12 = gives (runs form).q12;
        q9 = gives (runs form).q9;
        nine = nine_of bytes_q_lem accepted_q (λ w. (run-cases.spoilt).empty (on_q w));
        nine_33 = nine_of bytes_q_lem accepted_q (λ w. (run-edges.edges).i_33 (on_q w));
        nine_302 = nine_of (all_on 256 bytes_long refl) check-edges.accepted_long (λ w. (run-edges.edges).byte_302 (on_q w));
        nine_command = nine_of (all_on 256 bytes_p refl) check-edges.accepted_p (λ w. (run-edges.edges).command_3 (on_p w));
        nine_mask = nine_of (all_on 256 bytes_p refl) check-edges.accepted_p (λ w. (run-edges.edges).bit_2 (on_p w));
        eight = as_checked (check-edges.edges).eight (λ e. omega arith);
        stuck_at_one = as_checked (check-edges.edges).stuck_at_one (λ e. omega arith);
        twelve = as_checked (check-edges.edges).twelve (λ e. omega arith);
        uneven_read = read_p;
        one = too_short;
        two = as_read refl spoilt.cut_off (λ e. omega arith);
        three = as_read refl spoilt.run_in_book (λ e. omega arith);
        four = as_read refl spoilt.counts_missing (λ e. omega arith);
        five = as_read refl spoilt.counts_are_out (λ e. omega arith);
        six = as_read refl spoilt.repeated (λ e. omega arith);
        seven = as_read refl spoilt.item_65 (λ e. omega arith);
        thirteen = as_read refl spoilt.only_ones (λ e. omega arith);
      }
    where
      on_q : {s : List ℕ} → RunFormed (device_of book_q) s → RunFormed Q s
      on_q {s} w = subst (λ (d : Device). RunFormed d s) device-book_q w

      on_p : {s : List ℕ} → RunFormed (device_of book_p) s → RunFormed P s
      on_p {s} w = subst (λ (d : Device). RunFormed d s) device-book_p w

-- ---- with a scratch
zeroed : Lent
zeroed = lent (replicate 2048 0) (replicate 2176 0) (replicate 32 0)

zeroed-stated : Stated zeroed
unfolding zeroed
zeroed-stated = record { table = length-replicate {A = ℕ} 2048 0; slots = length-replicate {A = ℕ} 2176 0; weights = length-replicate {A = ℕ} 32 0 }

small-long : {scratch : List ℕ} {room : Room ℕ} → ScratchStated scratch room → LongEnough (small_sizes scratch room)
small-long s = (omega (arith, s.room_stated.plan), (omega (arith, s.room_stated.legs), (omega (arith, s.scratch_64), tt)))

small-short : {scratch : List ℕ} {room : Room ℕ} → ScratchShorter scratch room → LongEnough (small_sizes scratch room) → ⊥
small-short (scratch_63 e) long = omega (arith, long.1.1.0)
small-short (room_shorter (plan_255 e)) long = omega (arith, long.0)
small-short (room_shorter (legs_fewer e)) long = omega (arith, long.1.0)

gives_small : {book : List ℕ} {u : Run} {a : Assembly} {plan legs : List ℕ} → Gives in_bytes 96 book u a plan legs
    → {scratch : List ℕ} {room : Room ℕ} {r : Assembly} {scratch' : List ℕ} {room' : Room ℕ}
    → AssemblesSmall (asked book (run_bytes u)) scratch room r scratch' room' → ScratchStated scratch room
    → (r ≡ a) × Written plan room.plan room'.plan × Written legs room.legs room'.legs
gives_small g (small.short n e k w) s = absurd (n (small-long s))
gives_small g (small.as_first long k f) s =
    let (l', x) = f zeroed (stated-long zeroed-stated) in
    g.result x (record { read = zeroed-stated; room = s.room_stated })

keeps_small : {book run : List ℕ} {a : Assembly} → Keeps in_bytes 96 book run a
    → {scratch : List ℕ} {room : Room ℕ} {r : Assembly} {scratch' : List ℕ} {room' : Room ℕ}
    → AssemblesSmall (asked book run) scratch room r scratch' room' → ScratchStated scratch room → (r ≡ a) × (room' ≡ room)
keeps_small g (small.short n e k w) s = absurd (n (small-long s))
keeps_small g (small.as_first long k f) s =
    let (l', x) = f zeroed (stated-long zeroed-stated) in
    g.result x (record { read = zeroed-stated; room = s.room_stated })

short-small : {book run scratch : List ℕ} {room : Room ℕ} {r : Assembly} {scratch' : List ℕ} {room' : Room ℕ}
    → AssemblesSmall (asked book run) scratch room r scratch' room' → ScratchShorter scratch room → (r ≡ refusal 1 0) × (scratch' ≡ scratch) × (room' ≡ room)
short-small (small.short n e k w) s = (e, k, w)
short-small (small.as_first long k f) s = absurd (small-short s long)

pub small_edges : SmallEdges
small_edges = record { as_first = gives_small; refused_as_first = keeps_small; one = short-small }
