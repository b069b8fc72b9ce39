-- The contract of checking gives what 01 and 02 say; the first item that the test turns down is the first that is not accepted by trajectories, the
-- reason is its own, and the units made are those that 02 counts. Assumes nothing.
use mathlib.Core.Path.{◌≡◌, refl, sym, ap, ap₂, ◌∙◌}
use mathlib.Core.Bool.{Bool, true, false, false≢true}
use mathlib.Core.Logic.{◌↔◌}
use mathlib.Core.List.{List}
use Prim.Native.Nat.{ℕ, ◌+◌, ◌≤◌, ◌<◌}
use native.Mathlib.Omega.{arith}
use native.Mathlib.Decide.{dec_lt}
use lib.Dec.{T}
use lib.ListN.{length, take}
use Rattle.std.specs.Prelude.{Result}
use Rattle.base.specs.Sets.{NoBitFrom}
use Rattle.base.specs.Lists.{Each, Bytes}
use Rattle.base.specs.Tests.{pick, both}
use Rattle.base.specs.Sizes.{LongEnough}
use Rattle.base.proofs.Lists.{each_at, each_of}
use Rattle.base.proofs.Sizes.{long_or_not}
use Rattle.base.proofs.Tests.{T_true, true_t}
use Rattle.base.proofs.Lowest.{Tells, fails, passes, lowest-wrong, none-wrong as none-lowest, wrong-none}
use Rattle.reversal.specs.Device.{Device, Proper}
use Rattle.reversal.specs.Reversal.{Item, AllowedItem, Accepted}
use Rattle.reversal.specs.Chains.{absent, item}
use Rattle.reversal.specs.Units.{sum_units}
use Rattle.reversal.specs.Computed.Sets.{reverses, effective, accepts}
use Rattle.reversal.specs.Computed.Units.{item_made}
use Rattle.reversal.proofs.Reversals.{reverses↔, effective↔, accepts↔}
use Rattle.reversal.proofs.Units.{item-all, items-all, items-first, units_to_failure, sum-next}
use Rattle.book.specs.Book.{Book, device_of, AllowedBook, bytes_of, items_of}
use Rattle.book.specs.Lent.{Lent, sizes}
use Rattle.book.specs.Refusal.{Refusal}
use Rattle.book.specs.Parse.{Parsed, parse}
use Rattle.book.specs.Parse.Parsed.{Ok, Refused}
use Rattle.book.proofs.Device.{device_proper}
use Rattle.book.proofs.Reading.{parse-fine}
use Rattle.book.proofs.Refused.{refused_exactly}
use Rattle.book.proofs.Codes.{refusal_codes}
use Rattle.reader.specs.Reads.{refusal, done}
use Rattle.reader.specs.Reads as reads
use Rattle.reader.specs.Contract.{filled_by}
use Rattle.reader.proofs.Ways.{when_faulty, when_fine}
use Rattle.reader.proofs.Exactly.{filled}
use Rattle.checker.specs.declared.Reason.TheVariants.{NoReversePlan, NotEffective}
use Rattle.checker.specs.declared.Checking.{Checking}
use Rattle.checker.specs.declared.Rejected.{Rejected}
use Rattle.checker.specs.Reasons.{code_of, Due}
use Rattle.checker.specs.Checks.{AllAccepted, place_of, WrongFor, UnitsMade, with_units, Checks, unread, wrong, fine}
use Rattle.checker.specs.Contract.{wrong_item, reason_for, reason_in, judgement_of, units_of, on_judgement, judged_by, check_by, CheckingOf, CheckAs}
use Rattle.checker.proofs.Judging.{fault-code, one-wrong, all-accepted as none-turned-down}

-- ---- the judgement of a book, by its test
module _ (b : Book) where
  pub by_wrong : wrong_item b < length (items_of b) → {A : Type 0} (refuse : ℕ → ℕ → A) (found : A)
      → on_judgement (judgement_of b) refuse found ≡ refuse (code_of (reason_in b)) (place_of b (wrong_item b))
  by_wrong h refuse found =
      ap (λ (j : Result ℕ Rejected). on_judgement j refuse found) (one-wrong b h)
      ∙ ap (λ (code : ℕ). refuse code (place_of b (wrong_item b))) (fault-code (reason_in b))

  pub by_none : length (items_of b) ≤ wrong_item b → {A : Type 0} (refuse : ℕ → ℕ → A) (found : A) → on_judgement (judgement_of b) refuse found ≡ found
  by_none h refuse found = ap (λ (j : Result ℕ Rejected). on_judgement j refuse found) (none-turned-down b h)

-- ---- by trajectories
module _ (d : Device) (proper : Proper d) (x : Item) (starts : NoBitFrom d.n x.psi) where
  reason_due : accepts d x ≡ false → Due (reason_for d x) d x
  unfolding accepts reason_for both pick
  reason_due = go (reverses d x) refl (effective d x) refl
    where
      go : (r : Bool) → reverses d x ≡ r → (f : Bool) → effective d x ≡ f → both r f ≡ false → Due (pick r NotEffective NoReversePlan) d x
      go true p true q e = absurd (false≢true (sym e))
      go true p false q e =
          record {
            reverse_plan = (reverses↔ d proper x starts).0 (true_t (reverses d x) p);
            not_effective = λ g. false≢true (sym q ∙ T_true (effective d x) ((effective↔ d proper x starts).1 g));
          }
      go false p f q e = λ g. false≢true (sym p ∙ T_true (reverses d x) ((reverses↔ d proper x starts).1 g))

module _ (b : Book) (a : AllowedBook b) where
  starts-states : (i : ℕ) → i < length (items_of b) → NoBitFrom b.n (item (items_of b) i).psi
  starts-states i l = (each_at (AllowedItem (device_of b)) (items_of b) a.each_item i absent l).psi_states

  accepted↔ : (i : ℕ) → i < length (items_of b) → T (accepts (device_of b) (item (items_of b) i)) ↔ Accepted (device_of b) (item (items_of b) i)
  accepted↔ i l = accepts↔ (device_of b) (device_proper b a) (item (items_of b) i) (starts-states i l)

  tells : Tells (λ i. accepts (device_of b) (item (items_of b) i)) (λ i. Accepted (device_of b) (item (items_of b) i)) (length (items_of b))
  tells = record { on = λ i l e. (accepted↔ i l).0 (true_t _ e); of = λ i l p. T_true _ ((accepted↔ i l).1 p) }

  pub first-wrong : wrong_item b < length (items_of b) → WrongFor b (wrong_item b) (reason_in b)
  unfolding wrong_item
  first-wrong h =
      record {
        first = lowest-wrong _ (length (items_of b)) tells h;
        due =
            reason_due (device_of b) (device_proper b a) (item (items_of b) (wrong_item b)) (starts-states (wrong_item b) h)
            (fails (λ i. accepts (device_of b) (item (items_of b) i)) (length (items_of b)) h);
      }

  -- 02's count of the units made
  pub units_made : wrong_item b < length (items_of b) → UnitsMade b (wrong_item b) (reason_in b) (units_of b)
  unfolding wrong_item accepts reason_for pick both
  units_made h = go (reverses d x) refl
    where
      d : Device
      d = device_of b

      test : ℕ → Bool
      test i = accepts d (item (items_of b) i)

      i : ℕ
      i = wrong_item b

      x : Item
      x = item (items_of b) i

      up_to : units_of b ≡ sum_units b.n (take i (items_of b)) + item_made d x
      up_to =
          items-first d (items_of b) i h (λ j l. true_t _ (passes test (length (items_of b)) j l (omega arith)))
          (fails test (length (items_of b)) h)

      go : (r : Bool) → reverses d x ≡ r → UnitsMade b i (pick r NotEffective NoReversePlan) (units_of b)
      go true e = up_to ∙ rw (item-all d x (true_t _ e)) (sym (sum-next b.n (items_of b) i h))
      go false e = (item_made d x, units_to_failure d (device_proper b a) x (starts-states i h) e, up_to)

  pub all-accepted : length (items_of b) ≤ wrong_item b → AllAccepted b
  unfolding wrong_item
  all-accepted h = each_of (Accepted (device_of b)) (items_of b) absent (none-lowest _ (length (items_of b)) tells h)

  -- and the other way
  pub none-wrong : Each (Accepted (device_of b)) (items_of b) → length (items_of b) ≤ wrong_item b
  unfolding wrong_item
  none-wrong e = wrong-none _ (length (items_of b)) tells (λ i l. each_at (Accepted (device_of b)) (items_of b) e i absent l)

  pub all_units : length (items_of b) ≤ wrong_item b → units_of b ≡ sum_units b.n (items_of b)
  unfolding wrong_item
  all_units h =
      items-all (device_of b) (items_of b)
      (each_of (λ x. T (accepts (device_of b) x)) (items_of b) absent (λ i l. true_t _ (passes (λ i. accepts (device_of b) (item (items_of b) i)) (length (items_of b)) i (omega arith) l)))

-- ---- the ways of the bytes: a record is refused, an item is wrong, all are accepted
pub data Way (s : List ℕ) : Type 0 where
  by_fault : (code place : ℕ) → parse s ≡ Refused code place → Refusal s code place → Way s
  by_item : (b : Book) → parse s ≡ Ok b → AllowedBook b → bytes_of b ≡ s → wrong_item b < length (items_of b) → Way s
  by_book : (b : Book) → parse s ≡ Ok b → AllowedBook b → bytes_of b ≡ s → length (items_of b) ≤ wrong_item b → Way s

pub way : (s : List ℕ) → Bytes s → Way s
way s bytes = go (parse s) refl
  where
    judged : (b : Book) → parse s ≡ Ok b → AllowedBook b → bytes_of b ≡ s → Dec (wrong_item b < length (items_of b)) → Way s
    judged b e a same (yes h) = by_item b e a same h
    judged b e a same (no h) = by_book b e a same (omega arith)

    go : (p : Parsed) → parse s ≡ p → Way s
    go (Refused code place) e = by_fault code place e ((refused_exactly s code place bytes).0 e)
    go (Ok b) e = let (a, same) = parse-fine s b bytes e in judged b e a same (dec_lt (wrong_item b) (length (items_of b)))

-- what each way gives a caller
module _ {A : Type 0} (s : List ℕ) (refuse : ℕ → ℕ → A) (found : Book → A) where
  pub check_faulty : {code place : ℕ} → parse s ≡ Refused code place → check_by s refuse found ≡ refuse code place
  unfolding check_by
  check_faulty e = when_faulty s refuse (judged_by refuse found) e

  pub check_wrong : (b : Book) → parse s ≡ Ok b → wrong_item b < length (items_of b)
      → check_by s refuse found ≡ refuse (code_of (reason_in b)) (place_of b (wrong_item b))
  unfolding check_by
  check_wrong b e h = when_fine s refuse (judged_by refuse found) e ∙ by_wrong b h refuse (found b)

  pub check_fine : (b : Book) → parse s ≡ Ok b → length (items_of b) ≤ wrong_item b → check_by s refuse found ≡ found b
  unfolding check_by
  check_fine b e h = when_fine s refuse (judged_by refuse found) e ∙ by_none b h refuse (found b)

-- and answers
module _ {s : List ℕ} {r : Checking} (c : CheckingOf s r) where
  pub result-faulty : {code place : ℕ} → parse s ≡ Refused code place → r ≡ with_units (refusal code place) 0
  result-faulty e = c.result ∙ ap₂ with_units (check_faulty s refusal done e) (when_faulty s (λ code place. 0) units_of e)

  pub result-wrong : (b : Book) → parse s ≡ Ok b → wrong_item b < length (items_of b)
      → r ≡ with_units (refusal (code_of (reason_in b)) (place_of b (wrong_item b))) (units_of b)
  result-wrong b e h = c.result ∙ ap₂ with_units (check_wrong s refusal done b e h) (when_fine s (λ code place. 0) units_of e)

  pub result-fine : (b : Book) → parse s ≡ Ok b → length (items_of b) ≤ wrong_item b → r ≡ with_units (done b) (units_of b)
  result-fine b e h = c.result ∙ ap₂ with_units (check_fine s refusal done b e h) (when_fine s (λ code place. 0) units_of e)

-- ---- the call
pub checks : {s : List ℕ} {l : Lent} {r : Checking} {l' : Lent} → CheckAs s l r l' → Checks s l r l'
checks {s} {l} {r} {l'} c = go (long_or_not (sizes l))
  where
    on_way : LongEnough (sizes l) → CheckingOf s r → l' ≡ filled_by s l → Way s → Checks s l r l'
    on_way h d k (by_fault code place e f) =
        unread (reads.faulty h f refl (k ∙ when_faulty s _ _ e)) (λ z. omega (arith, refusal_codes s code place f)) (result-faulty d e)
    on_way h d k (by_item b e a same w) = wrong b (filled k h a same e) (first-wrong b a w) (units_made b a w) (result-wrong d b e w)
    on_way h d k (by_book b e a same w) =
        fine b (record { filled = filled k h a same e; accepted = all-accepted b a w }) (result-fine d b e w ∙ ap (with_units (done b)) (all_units b a w))

    go : Dec (LongEnough (sizes l)) → Checks s l r l'
    go (no n) = let (e, k) = c.short n in unread (reads.short n refl k) (λ z. omega arith) e
    go (yes h) = let (d, k) = c.enough h in on_way h d k (way s c.bytes)
