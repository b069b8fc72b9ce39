-- The contract says what Writes says, both ways; so what 01 says leaves one answer only. Assumes nothing.
use mathlib.Core.Path.{◌≡◌, refl, sym, ap, ◌∙◌, subst}
use mathlib.Core.Logic.{◌⊎◌, inl, inr}
use mathlib.Core.Bool.{true, false, false≢true}
use mathlib.Core.List.{List}
use Rattle.std.specs.Prelude.{Ok}
use Prim.Native.Nat.{ℕ, ◌*◌, ◌<◌, ◌≤◌}
use native.Mathlib.Omega.{arith}
use native.Mathlib.Decide.{dec_lt}
use lib.ListN.{length, get_or}
use lib.Seq.{sets}
use Rattle.base.specs.Lists.{Bytes}
use Rattle.base.specs.Sizes.{LongEnough}
use Rattle.base.specs.Masks.{clear_from}
use Rattle.reversal.specs.Device.{tabled}
use Rattle.book.specs.Book.{Book, AllowedDevice, AllowedBook, bytes_of}
use Rattle.book.specs.Lent.{Lent, sizes, Holds}
use Rattle.base.proofs.Lists.{stored, same-written}
use Rattle.base.proofs.Sizes.{long_or_not}
use Rattle.base.proofs.Lowest.{Tells, lowest-wrong, none-wrong, wrong-lowest, wrong-none}
use Rattle.book.specs.Slots.{slot_fine}
use Rattle.book.specs.Buffers.{book_from, Writable}
use Rattle.book.specs.Limits.{weight_fine}
use Rattle.book.proofs.Limits.{device_or_not, weight_of, weight_on}
use Rattle.book.proofs.Fields.{clear_of, clear_on}
use Rattle.book.proofs.Largest.{length-book}
use Rattle.book.proofs.Slots.{slot_allowed↔}
use Rattle.book.proofs.RoundTrip.{written-allowed, held-book, held_writable}
use Rattle.writer.specs.declared.Writing.{Writing}
use Rattle.writer.specs.Lowest.{lowest_weight, lowest_entry, lowest_slot}
use Rattle.writer.specs.Contract.{judgement, checked, book_bytes}
use Rattle.writer.specs.Writes.{buffers, WeightRight, EntryRight, SlotRight, Refuses, refusal, written, BookWritten, Writes}
use Rattle.writer.specs.Writes.Refuses.{short, device, count, weight, entry, slot}
use Rattle.writer.specs.Writes.Writes.{refused, done}
use Rattle.writer.proofs.Chain.{at_short, at_device, at_count, at_weight, at_entry, at_slot, at_end_lem, by_judgement}

-- ---- the output
module _ (book out : List ℕ) (room : length book ≤ length out) where
  pub book-stored : BookWritten book out (written (length book)) (sets out 0 book)
  book-stored = record { answer = refl; bytes = stored book out (sets out 0 book) room refl }

module _ (n m items : ℕ) (l : Lent) (out : List ℕ) (h : Bytes l.slots) where
  -- ---- what the tests tell
  weights_tell : Tells (λ c. weight_fine (get_or l.weights c 0)) (WeightRight l.weights) m
  weights_tell = record { on = λ c q. weight_on (get_or l.weights c 0); of = λ c q. weight_of (get_or l.weights c 0) }

  entries_tell : Tells (λ i. clear_from n (get_or l.table i 0)) (EntryRight n l.table) (n * m)
  entries_tell = record { on = λ i q. clear_on n (get_or l.table i 0); of = λ i q. clear_of n (get_or l.table i 0) }

  module _ (d : AllowedDevice n m) where
    slots_tell : Tells (slot_fine n m l.slots) (SlotRight n m l.table l.slots) items
    slots_tell =
        record {
          on = λ i q. (slot_allowed↔ (tabled n m l.table) d.n_high l.slots i h).0;
          of = λ i q. (slot_allowed↔ (tabled n m l.table) d.n_high l.slots i h).1;
        }

  -- ---- what the chain of tests gives
  module _ {A : Type 0} (refuse : ℕ → ℕ → A) (fine : A) where
    pub refused-is : {code place : ℕ} → Refuses n m items l out code place → refuse code place ≡ checked n m items l out refuse fine
    unfolding lowest_weight lowest_entry lowest_slot
    refused-is (short none) = by_judgement n m items l out refuse fine (at_short n m items l out none)
    refused-is (device long none) = by_judgement n m items l out refuse fine (at_device n m items l out long none)
    refused-is (count long d q) = by_judgement n m items l out refuse fine (at_count n m items l out long d q)
    refused-is (weight {c} long d few w) =
        let e : lowest_weight m l.weights ≡ c = wrong-lowest _ m weights_tell c w in
        ap (refuse 5) (sym e) ∙ by_judgement n m items l out refuse fine (at_weight n m items l out long d few (omega (arith, w.inside)))
    refused-is (entry {i} long d few g w) =
        let e : lowest_entry n (n * m) l.table ≡ i = wrong-lowest _ (n * m) entries_tell i w in
        ap (refuse 5) (sym e) ∙ by_judgement n m items l out refuse fine (at_entry n m items l out long d few (wrong-none _ m weights_tell g) (omega (arith, w.inside)))
    refused-is (slot {i} long d few g f w) =
        let e : lowest_slot n m items l.slots ≡ i = wrong-lowest _ items (slots_tell d) i w in
        ap (refuse 5) (sym e)
        ∙ by_judgement n m items l out refuse fine (at_slot n m items l out long d few (wrong-none _ m weights_tell g) (wrong-none _ (n * m) entries_tell f) (omega (arith, w.inside)))

    pub fine-is : LongEnough (buffers l out) → Writable n m items l → fine ≡ checked n m items l out refuse fine
    unfolding lowest_weight lowest_entry lowest_slot
    fine-is long w =
        by_judgement n m items l out refuse fine (at_end_lem n m items l out long w.device w.few (wrong-none _ m weights_tell w.each_weight)
        (wrong-none _ (n * m) entries_tell w.entries)
        (wrong-none _ items (slots_tell w.device) (λ i q. (slots_tell w.device).on i q (w.each_slot i q))))

  -- ---- one of the cases holds
  abbrev pub Judged : Type 0
  Judged = ((code place : ℕ) × Refuses n m items l out code place) ⊎ (LongEnough (buffers l out) × Writable n m items l)

  pub judged : Judged
  unfolding lowest_weight lowest_entry lowest_slot
  judged = on_long (long_or_not (buffers l out))
    where
      on_slot : LongEnough (buffers l out) → AllowedDevice n m → items ≤ 64 → ((c : ℕ) → c < m → WeightRight l.weights c)
          → ((i : ℕ) → i < n * m → EntryRight n l.table i) → Dec (lowest_slot n m items l.slots < items) → Judged
      on_slot long d few g f (yes q) = inl (5, lowest_slot n m items l.slots, slot long d few g f (lowest-wrong _ items (slots_tell d) q))
      on_slot long d few g f (no q) =
          inr (
            long,
            record {
              device = d;
              few = few;
              each_weight = g;
              entries = f;
              each_slot = λ i e. (slots_tell d).of i e (none-wrong _ items (slots_tell d) (omega arith) i e);
            },
          )

      on_entry_lem : LongEnough (buffers l out) → AllowedDevice n m → items ≤ 64 → ((c : ℕ) → c < m → WeightRight l.weights c)
          → Dec (lowest_entry n (n * m) l.table < n * m) → Judged
      on_entry_lem long d few g (yes q) = inl (5, lowest_entry n (n * m) l.table, entry long d few g (lowest-wrong _ (n * m) entries_tell q))
      on_entry_lem long d few g (no q) =
          on_slot long d few g (none-wrong _ (n * m) entries_tell (omega arith)) (dec_lt (lowest_slot n m items l.slots) items)

      on_weight : LongEnough (buffers l out) → AllowedDevice n m → items ≤ 64 → Dec (lowest_weight m l.weights < m) → Judged
      on_weight long d few (yes q) = inl (5, lowest_weight m l.weights, weight long d few (lowest-wrong _ m weights_tell q))
      on_weight long d few (no q) =
          on_entry_lem long d few (none-wrong _ m weights_tell (omega arith)) (dec_lt (lowest_entry n (n * m) l.table) (n * m))

      on_count : LongEnough (buffers l out) → AllowedDevice n m → Dec (64 < items) → Judged
      on_count long d (yes q) = inl (7, 0, count long d q)
      on_count long d (no q) = on_weight long d (omega arith) (dec_lt (lowest_weight m l.weights) m)

      on_device : LongEnough (buffers l out) → Dec (AllowedDevice n m) → Judged
      on_device long (yes d) = on_count long d (dec_lt 64 items)
      on_device long (no q) = inl (5, 0, device long q)

      on_long : Dec (LongEnough (buffers l out)) → Judged
      on_long (yes long) = on_device long (device_or_not n m)
      on_long (no q) = inl (1, 0, short q)

  -- where the tests give no fault, all may be written
  pub none-refused : Ok tt ≡ judgement n m items l out → LongEnough (buffers l out) × Writable n m items l
  none-refused e = go judged
    where
      go : Judged → LongEnough (buffers l out) × Writable n m items l
      go (inl (code, place, q)) =
          absurd (false≢true (refused-is (λ code place. false) true q ∙ sym (by_judgement n m items l out (λ code place. false) true e)))
      go (inr w) = w

  pub book-room : LongEnough (buffers l out) → Writable n m items l → length (book_bytes n m items l) ≤ length out
  book-room long w =
      omega (arith, long.1.1.1.0, length-book (book_from n m items l) (written-allowed n m items l w))

-- ---- both ways
pub read-long : (l : Lent) (out : List ℕ) → LongEnough (buffers l out) → LongEnough (sizes l)
read-long l out long = (long.0, (long.1.0, (long.1.1.0, tt)))

module _ {n m items : ℕ} {l : Lent} {out : List ℕ} where
  module _ (h : Bytes l.slots) where
    -- the two equations of the contract
    writes_is : {r : Writing} {out' : List ℕ} → Writes n m items l out r out'
        → (r ≡ checked n m items l out refusal (written (length (book_bytes n m items l))))
        × (out' ≡ checked n m items l out (λ code place. out) (sets out 0 (book_bytes n m items l)))
    writes_is {r} {out'} (refused q e f) = (e ∙ refused-is n m items l out h _ _ q, f ∙ refused-is n m items l out h _ _ q)
    writes_is {r} {out'} (done long b a k v) =
        let w = held_writable a k (read-long l out long) in
        let s : BookWritten (book_bytes n m items l) out r out'
        = subst (λ (x : Book). BookWritten (bytes_of x) out r out') (sym (held-book a k (read-long l out long))) v in (
          s.answer ∙ fine-is n m items l out h _ _ long w,
          same-written s.bytes (book-stored _ out (book-room n m items l out h long w)).bytes
              ∙ fine-is n m items l out h _ _ long w,
        )

    -- what 01 says of writing leaves one answer only
    pub writes_unique : {r q : Writing} {o p : List ℕ} → Writes n m items l out r o → Writes n m items l out q p → (r ≡ q) × (o ≡ p)
    writes_unique a b = ((writes_is a).0 ∙ sym (writes_is b).0, (writes_is a).1 ∙ sym (writes_is b).1)

    -- the answer for a book that is known to stand there
    pub held-written : {r : Writing} {o : List ℕ} → Writes n m items l out r o → LongEnough (buffers l out) → {b : Book} → AllowedBook b
        → Holds n m items l b → BookWritten (bytes_of b) out r o
    held-written {r} {o} x long {b} a k =
        let s = book-stored (bytes_of b) out (omega (arith, long.1.1.1.0, length-book b a)) in
        let (e, f) = writes_unique x (done long b a k s) in
        rw (e, f) s
