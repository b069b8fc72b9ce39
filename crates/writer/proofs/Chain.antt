-- The chain of tests: what it gives in each of 01's and 02's cases. Assumes nothing.
use mathlib.Core.Path.{◌≡◌, sym, ap, ◌∙◌}
use mathlib.Core.Bool.{Bool, true, false, not, false≢true}
use mathlib.Core.List.{List, []}
use Prim.Native.Nat.{ℕ, ◌*◌, ◌<◌, ◌≤◌}
use Rattle.std.specs.Prelude.{Result, Ok, Err, is_err, IsErrAnd}
use Rattle.base.specs.Tests.{pick}
use Rattle.base.specs.Sizes.{LongEnough}
use Rattle.base.specs.Shorter.{any_short}
use Rattle.base.proofs.Sizes.{long_off, short_on}
use Rattle.base.proofs.Picks.{tests}
use Rattle.reversal.specs.Device.{tabled}
use Rattle.reversal.specs.Reversal.{AllowedItem}
use Rattle.book.specs.declared.fault.Fault.TheVariants.{ShortBuffer, OutOfRange, TooManyItems}
use Rattle.book.specs.declared.fault.FaultAt.{FaultAt}
use Rattle.book.specs.Parse.{fault_at}
use Rattle.book.specs.Book.{AllowedDevice}
use Rattle.book.specs.Limits.{device_fine}
use Rattle.book.specs.Lent.{Lent}
use Rattle.book.specs.Slots.{item_at, slot_fine}
use Rattle.book.proofs.Slots.{item-fine}
use Rattle.book.proofs.Limits.{device_of_lem, device_off}
use Rattle.writer.specs.Records.{CountsFine}
use Rattle.writer.specs.Lowest.{lowest_weight, lowest_entry, lowest_slot, unless_below}
use Rattle.writer.specs.Contract.{judgement, on_judgement, checked}
use Rattle.writer.specs.Writes.{buffers}

no_ok : {u : Unit {0}} {f : FaultAt} → Ok u ≡ Err f → ⊥
no_ok e = false≢true (ap (λ (r : Result (Unit {0}) FaultAt). is_err r) e)

module _ (n m items : ℕ) (l : Lent) (out : List ℕ) where
  pub at_short : (LongEnough (buffers l out) → ⊥) → Err (fault_at ShortBuffer 0) ≡ judgement n m items l out
  unfolding judgement
  at_short none = let s : any_short (buffers l out) ≡ true = short_on (buffers l out) none in search tests

  module _ (long : LongEnough (buffers l out)) where
    enough : any_short (buffers l out) ≡ false
    enough = long_off (buffers l out) long

    pub at_device : (AllowedDevice n m → ⊥) → Err (fault_at OutOfRange 0) ≡ judgement n m items l out
    unfolding judgement
    at_device none = let s = enough in let d : not (device_fine n m) ≡ true = device_off n m none in search tests

    module _ (device : AllowedDevice n m) where
      sizes-fine : not (device_fine n m) ≡ false
      sizes-fine = ap not (device_of_lem n m device)

      pub at_count : 64 < items → Err (fault_at TooManyItems 0) ≡ judgement n m items l out
      unfolding judgement
      at_count h = let s = enough in let d = sizes-fine in search tests depth 8

      module _ (few : items ≤ 64) where
        pub at_weight : lowest_weight m l.weights < m → Err (fault_at OutOfRange (lowest_weight m l.weights)) ≡ judgement n m items l out
        unfolding judgement
        at_weight h = let s = enough in let d = sizes-fine in search tests depth 8

        module _ (weights : m ≤ lowest_weight m l.weights) where
          pub at_entry : lowest_entry n (n * m) l.table < n * m → Err (fault_at OutOfRange (lowest_entry n (n * m) l.table)) ≡ judgement n m items l out
          unfolding judgement
          at_entry h = let s = enough in let d = sizes-fine in search tests depth 9

          module _ (entries : n * m ≤ lowest_entry n (n * m) l.table) where
            pub at_slot : lowest_slot n m items l.slots < items → Err (fault_at OutOfRange (lowest_slot n m items l.slots)) ≡ judgement n m items l out
            unfolding judgement
            at_slot h = let s = enough in let d = sizes-fine in search tests depth 10

            pub at_end_lem : items ≤ lowest_slot n m items l.slots → Ok tt ≡ judgement n m items l out
            unfolding judgement
            at_end_lem h = let s = enough in let d = sizes-fine in search tests depth 10

-- what a judgement leads to
pub by_judgement : {A : Type 0} (n m items : ℕ) (l : Lent) (out : List ℕ) (refuse : ℕ → ℕ → A) (fine : A) {r : Result (Unit {0}) FaultAt}
    → r ≡ judgement n m items l out → on_judgement r refuse fine ≡ checked n m items l out refuse fine
by_judgement n m items l out refuse fine e = ap (λ (r : Result (Unit {0}) FaultAt). on_judgement r refuse fine) e

-- ---- for the code
pub counts_fine_lem : (n m c : ℕ) (s : List ℕ) → ((i : ℕ) → i < c → slot_fine n m s i ≡ true) → CountsFine c s
counts_fine_lem n m c s h =
    record {
      forward = λ i l. (right i l).most;
      reverse = λ i l. (right i l).reverse_most;
    }
  where
    right : (i : ℕ) → i < c → AllowedItem (tabled n m []) (item_at s i)
    right i l = item-fine (tabled n m []) s i (h i l)

-- a search that found nothing is passed; one that found a fault ends the chain
pub past : (t : Bool) (fault : FaultAt) {u : Unit {0}} {r rest : Result (Unit {0}) FaultAt} → Ok u ≡ pick t (Err fault) (Ok (tt {0})) → r ≡ rest
    → r ≡ pick t (Err fault) rest
unfolding pick
past true fault h e = absurd (no_ok h)
past false fault h e = e

pub stopped : (t : Bool) (fault : FaultAt) (r rest : Result (Unit {0}) FaultAt) {f : FaultAt} → Err f ≡ pick t (Err fault) (Ok (tt {0}))
    → IsErrAnd r (λ e. e ≡ f) → r ≡ pick t (Err fault) rest
unfolding pick
stopped true fault (Err e) rest h k = ap Err k ∙ h
stopped true fault (Ok u) rest h k = absurd k
stopped false fault r rest h k = absurd (no_ok (sym h))

pub at_searches : (n m items : ℕ) (l : Lent) (out : List ℕ) {r : Result (Unit {0}) FaultAt} → LongEnough (buffers l out)
    → not (device_fine n m) ≡ false → items ≤ 64
    → r
    ≡ unless_below (lowest_weight m l.weights) m
    (unless_below (lowest_entry n (n * m) l.table) (n * m) (unless_below (lowest_slot n m items l.slots) items (Ok tt)))
    → r ≡ judgement n m items l out
unfolding judgement
at_searches n m items l out long d few e = let s = long_off (buffers l out) long in search tests
