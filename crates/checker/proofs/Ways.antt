-- The ways through checking, over reading's contracts. Assumes nothing.
use mathlib.Core.Path.{◌≡◌, refl, sym, ap, ap₂, ◌∙◌}
use mathlib.Core.List.{List}
use Prim.Native.Nat.{ℕ, ◌≤◌, ◌<◌}
use native.Mathlib.Decide.{dec_lt}
use native.Mathlib.Omega.{arith}
use lib.ListN.{length}
use Rattle.std.specs.Prelude.{Result, Ok, Err, IsErrAnd}
use Rattle.base.specs.Lists.{Bytes}
use Rattle.base.specs.Sizes.{LongEnough}
use Rattle.base.proofs.Sizes.{long_or_not}
use Rattle.reversal.specs.Device.{Device, tabled}
use Rattle.book.specs.declared.State.{State}
use Rattle.book.specs.declared.fault.FaultAt.{FaultAt}
use Rattle.book.specs.declared.fault.Fault.TheVariants.{ShortBuffer}
use Rattle.book.specs.Book.{Book, device_of, AllowedBook, bytes_of, WellFormed}
use Rattle.book.specs.Lent.{Lent, sizes}
use Rattle.book.specs.Parse.{fault_at, cut, scan, at_start}
use Rattle.book.specs.Buffers.{table_of}
use Rattle.book.specs.Faults.{code_of}
use Rattle.book.proofs.Codes.{refusal_codes}
use Rattle.book.proofs.Device.{tabled-device}
use Rattle.book.proofs.Refused.{refused_exactly}
use Rattle.moves.specs.Moves.{moved, Indexed}
use Rattle.moves.proofs.Device.{moved-device}
use Rattle.reader.specs.declared.Reading.{Reading}
use Rattle.reader.specs.Judged.{Limits}
use Rattle.reader.specs.Reads.{refusal, done}
use Rattle.reader.specs.Contract.{ReadInto}
use Rattle.reader.proofs.Filling.{Found, found, refused}
use Rattle.reader.proofs.Ways.{when_faulty, when_fine}
use Rattle.checker.specs.declared.Checking.{Checking}
use Rattle.checker.specs.declared.Counts.{Counts}
use Rattle.checker.specs.declared.Rejected.{Rejected}
use Rattle.checker.specs.Checks.{with_units}
use Rattle.checker.specs.TableChecks.{answer_of, short}
use Rattle.checker.specs.Contract.{unread, checking_by, units_of, judged_by, BookJudged, check_by, CheckingOf, CheckAs, CheckInTableAs, CheckSmallAs, CheckTableAs}
use Rattle.checker.proofs.Judging.{error_is}
use Rattle.checker.proofs.TableChecks.{table-says}

-- the device is in the table that was read
device-read : {s : List ℕ} {st : State} (k : Found s st) (table : List ℕ) {table' : List ℕ} → 2048 ≤ length table → table' ≡ table_of k.book table
    → tabled st.n st.m table' ≡ device_of k.book
device-read k table long t = ap₂ (λ (x : Reading) (y : List ℕ). tabled x.n x.m y) k.result t ∙ tabled-device k.book table k.allowed long

-- ---- of the bytes alone
module _ {s : List ℕ} (bytes : Bytes s) where
  pub refused_of : {f : FaultAt} → Err f ≡ scan (cut s) 0 at_start → CheckingOf s (checking_by (Err (unread f)))
  unfolding check_by
  refused_of {f} e =
      let p = refused s f (sym e) in
      record {
        bytes = bytes;
        result = ap₂ with_units (sym (when_faulty s refusal (judged_by refusal done) p)) (sym (when_faulty s (λ code place. 0) units_of p));
      }

  module _ {st : State} (e : Ok st ≡ scan (cut s) 0 at_start) where
    abbrev g : Found s st
    g = found s st bytes (sym e)

    -- what the judgement asks
    pub asked : Limits st → (st.n ≤ 64) × (st.m ≤ 32) × WellFormed s
    asked h = (h.n_high, h.m_high, (g.book, g.allowed, g.bytes))

    -- what it answers, of the book's device, is the answer
    pub judged_of : {d : Device} → d ≡ device_of g.book → (r : Result Counts Rejected) → BookJudged s d st.items r → CheckingOf s (checking_by r)
    unfolding check_by
    judged_of same r h =
        record {
          bytes = bytes;
          result =
              h g.book g.allowed g.bytes same (ap (λ (x : Reading). x.items) g.result)
              ∙ ap₂ with_units (sym (when_fine s refusal (judged_by refusal done) g.parsed)) (sym (when_fine s (λ code place. 0) units_of g.parsed));
        }

-- ---- with lent buffers
module _ {s : List ℕ} {l l' : Lent} where
  pub passed_on : {f : FaultAt} → ReadInto s l (Err f) l' → (r : Result Counts Rejected) → IsErrAnd r (λ e. e ≡ unread f) → CheckAs s l (checking_by r) l'
  passed_on {f} c r h =
      rw (error_is r h) (
      record {
        bytes = c.bytes;
        short = λ k. let (e, b) = c.short k in let q : f ≡ fault_at ShortBuffer 0 = cc in (ap (λ (x : FaultAt). checking_by (Err (unread x))) q, b);
        enough = λ k. let (e, _, b) = c.enough k in (refused_of c.bytes e, b);
      }
      )

  module _ {st : State} (c : ReadInto s l (Ok st) l') where
    long : LongEnough (sizes l)
    long = go (long_or_not (sizes l))
      where
        go : Dec (LongEnough (sizes l)) → LongEnough (sizes l)
        go (yes h) = h
        go (no n) = let e = (c.short n).0 in absurd cc

    pub read_asked : (st.n ≤ 64) × (st.m ≤ 32) × WellFormed s
    read_asked = let (e, h, _) = c.enough long in asked c.bytes e h

    pub judged : (r : Result Counts Rejected) → BookJudged s (tabled st.n st.m l'.table) st.items r → CheckAs s l (checking_by r) l'
    judged r h =
        let (e, _, b) = c.enough long in
        let t = ap (λ (y : Lent). y.table) (b ∙ when_fine s _ _ (g c.bytes e).parsed) in
        record { bytes = c.bytes; short = λ n. absurd (n long); enough = λ _. (judged_of c.bytes e (device-read (g c.bytes e) l.table long.0 t) r h, b) }

-- ---- with a scratch in place of the buffers
module _ {s scratch : List ℕ} (bytes : Bytes s) where
  pub small-refused : {f : FaultAt} → Err f ≡ scan (cut s) 0 at_start → (r : Result Counts Rejected) → IsErrAnd r (λ e. e ≡ unread f)
      → CheckSmallAs s scratch (checking_by r) scratch
  small-refused {f} e r h =
      rw (error_is r h) (
      record {
        checking = λ _. refused_of bytes e;
        device = λ k z.
            let due = (refused_exactly s (code_of f.fault) f.place bytes).0 (refused s f (sym e)) in
            absurd (omega (arith, z, refusal_codes s (code_of f.fault) f.place due));
        rest = refl;
      }
      )

  pub small-judged : {st : State} (e : Ok st ≡ scan (cut s) 0 at_start) {scratch' : List ℕ} → Indexed s scratch scratch'
      → (r : Result Counts Rejected) → BookJudged s (moved s st.n st.m scratch') st.items r → CheckSmallAs s scratch (checking_by r) scratch'
  small-judged e {scratch'} i r h =
      let k = g bytes e in
      record {
        checking = λ h'. judged_of bytes e (ap (λ (y : Reading). moved s y.n y.m scratch') k.result ∙ of_book h' k.book k.allowed k.bytes) r h;
        device = λ h' _. of_book h';
        rest = i.rest;
      }
    where
      of_book : 64 ≤ length scratch → (b : Book) → AllowedBook b → bytes_of b ≡ s → moved s b.n b.m scratch' ≡ device_of b
      of_book h' b a same = moved-device b s scratch' a (i.entries b a same h')

-- ---- with a table as the only buffer
module _ {s table : List ℕ} (bytes : Bytes s) where
  pub table_short : length table < 2048 → {r : Rejected} → r ≡ unread (fault_at ShortBuffer 0) → CheckInTableAs s table (checking_by (Err r)) table
  table_short l e =
      record {
        bytes = bytes;
        short = λ _. (ap (λ (x : Rejected). checking_by (Err x)) e, refl);
        enough = λ h. absurd (omega (arith, l, h));
      }

  pub table_refused : {f : FaultAt} → 2048 ≤ length table → Err f ≡ scan (cut s) 0 at_start → (r : Result Counts Rejected) → IsErrAnd r (λ e. e ≡ unread f)
      → CheckInTableAs s table (checking_by r) table
  table_refused {f} l e r h =
      rw (error_is r h) (
      record {
        bytes = bytes;
        short = λ n. absurd (omega (arith, l, n));
        enough = λ _. (refused_of bytes e, sym (when_faulty s (λ code place. table) (λ b. table_of b table) (refused s f (sym e))));
      }
      )

  pub table_judged : {st : State} (e : Ok st ≡ scan (cut s) 0 at_start) {table' : List ℕ} → 2048 ≤ length table
      → ((b : Book) → AllowedBook b → bytes_of b ≡ s → table' ≡ table_of b table)
      → (r : Result Counts Rejected) → BookJudged s (tabled st.n st.m table') st.items r → CheckInTableAs s table (checking_by r) table'
  table_judged e h t r j =
      let k = g bytes e in
      let q = t k.book k.allowed k.bytes in
      record {
        bytes = bytes;
        short = λ n. absurd (omega (arith, h, n));
        enough = λ _. (judged_of bytes e (device-read k table h q) r j, q ∙ sym (when_fine s _ _ k.parsed));
      }

-- as C is answered
pub table_as : {s table : List ℕ} {r : Checking} {table' : List ℕ} → CheckInTableAs s table r table' → CheckTableAs s table (answer_of r) table'
table_as {s} {table} {r} {table'} c = go (dec_lt (length table) 2048)
  where
    go : Dec (length table < 2048) → CheckTableAs s table (answer_of r) table'
    go (yes l) = let (e, t) = c.short l in record { bytes = c.bytes; says = short l (ap answer_of e) t }
    go (no n) = let h : 2048 ≤ length table = omega arith in let (k, t) = c.enough h in table-says k h t
