-- The walk over the items stands at an item's record, which is read and judged: what the code reads there is the book's item; the starts that passed, and
-- what the walk goes on with. Assumes nothing.
use mathlib.Core.Path.{◌≡◌, ap, ap₂, ◌∙◌, subst}
use mathlib.Core.Bool.{Bool, true, false}
use mathlib.Core.List.{List, []}
use Prim.Native.Nat.{ℕ, ◌+◌, ◌-◌, ◌≤◌, ◌<◌}
use native.Mathlib.Omega.{arith}
use lib.Bits.{bit_and}
use lib.ListN.{length, get_or}
use Rattle.std.specs.Prelude.{Result, Err, Some}
use Rattle.base.specs.Lists.{Bytes}
use Rattle.base.proofs.Lists.{each_of}
use Rattle.octets.specs.Le.{bytes_le}
use Rattle.octets.specs.Parts.{le_at}
use Rattle.octets.proofs.Put.{first-bytes}
use Rattle.reversal.specs.Device.{Device}
use Rattle.reversal.specs.Reversal.{Item}
use Rattle.reversal.specs.Chains.{item}
use Rattle.reversal.specs.Units.{start_units}
use Rattle.reversal.specs.Computed.Sets.{ends, reverses, effective}
use Rattle.reversal.specs.Computed.Units.{item_made}
use Rattle.book.specs.Book.{Book, device_of, AllowedBook, bytes_of, WellFormed, items_of}
use Rattle.items.specs.declared.Parts.{Parts}
use Rattle.items.specs.Items.{ItemStands, item_in, held_in, PartsAt, ItemComes}
use Rattle.items.proofs.Laws.{allowed, item_is, k-held, r_held}
use Rattle.checker.specs.declared.Reason.TheVariants.{NoReversePlan, NotEffective}
use Rattle.checker.specs.Contract.{back_of, judgement_of, wrong_for}
use Rattle.checker.proofs.Items.{Leading, reach-all, Passed, starts-done}
use Rattle.checker.proofs.Judging.{passes_both, not_reversed, not_used, Walking, stands, few_units, at_next, found}

-- at a place, where so many units were made, parts were read
pub record AtItem (d : Device) (s : List ℕ) (at made : ℕ) (p : Parts) : Type 0 where
  pub bytes : Bytes s
  pub formed : WellFormed s
  pub few : d.n ≤ 64
  pub walk : (b : Book) → AllowedBook b → bytes_of b ≡ s → Walking d s b at made
  pub more : at < length s
  pub parts : PartsAt s at p

-- as the walk of `ItemRecords` gives them
pub at_item : {d : Device} {s u u' : List ℕ} {at p at' made : ℕ} {x : Parts} → ((k : ℕ) → k < length s → get_or s k 0 < 256)
    → (d.n ≤ 64) × (d.m ≤ 32) × WellFormed s → u ≡ s → ((b : Book) → AllowedBook b → bytes_of b ≡ s → Walking d s b at made)
    → ItemComes u at (Some (p, x)) u' at' → AtItem d s p made x
at_item {s = s} bytes (few, m, formed) same walk come =
    let (more, place, parts, next) = rw same at come.1 in
    rw place (
    record { bytes = each_of (λ x. x < 256) s 0 bytes; formed = formed; few = few; walk = walk; more = more; parts = parts })

module _ {d : Device} {s : List ℕ} {at made : ℕ} {p : Parts} (i : AtItem d s at made p) where
  there : (b : Book) (a : AllowedBook b) (e : bytes_of b ≡ s) → ItemStands s b (i.walk b a e).number at
  there b a e = stands d s b a e at made (i.walk b a e) i.more

  -- the item is the book's
  is : (b : Book) (a : AllowedBook b) (e : bytes_of b ≡ s) → item_in s at ≡ item (items_of b) (i.walk b a e).number
  is b a e = item_is (there b a e)

  counts : (p.k ≤ 8) × (p.r ≤ 8)
  counts =
      let (b, a, e) = i.formed in
      let t = allowed (there b a e) in
      let k : p.k ≡ length (item (items_of b) (i.walk b a e).number).forward = k-held i.parts ∙ ap (λ (x : Item). length x.forward) (is b a e) in
      let r : p.r ≡ length (item (items_of b) (i.walk b a e).number).reverse = r_held i.parts ∙ ap (λ (x : Item). length x.reverse) (is b a e) in
      (omega (arith, t.most), omega (arith, t.reverse_most))

  -- what is read of it
  pub forward_is : (v : ℕ) → v ≡ le_at 8 s p.forward → bytes_le p.k v ≡ (item_in s at).forward
  forward_is v e = ap (bytes_le p.k) e ∙ first-bytes p.k 8 s p.forward counts.0 i.bytes ∙ ap (λ (x : Item). x.forward) i.parts.held

  reverse_is : (v : ℕ) → v ≡ le_at 8 s p.reverse → bytes_le p.r v ≡ (item_in s at).reverse
  reverse_is v e = ap (bytes_le p.r) e ∙ first-bytes p.r 8 s p.reverse counts.1 i.bytes ∙ ap (λ (x : Item). x.reverse) i.parts.held

  pub run_is : {back : Result (Unit {0}) ℕ} (w v start : ℕ) → v ≡ le_at 8 s p.reverse → back ≡ back_of d w (bytes_le p.r v) start
      → back ≡ back_of d w (item_in s at).reverse start
  run_is w v start e q = q ∙ ap (λ (cs : List ℕ). back_of d w cs start) (reverse_is v e)

  phi_is : {v : ℕ} → v ≡ (held_in s p).phi → v ≡ (item_in s at).phi
  phi_is e = e ∙ ap (λ (x : Item). x.phi) i.parts.held

  pub psi_is : {v : ℕ} → v ≡ (held_in s p).psi → v ≡ (item_in s at).psi
  psi_is e = e ∙ ap (λ (x : Item). x.psi) i.parts.held

  -- a start that passes takes all of its units
  pub all_units : (units : ℕ) → units + (p.k + p.r) ≡ units + start_units (item_in s at)
  all_units units = ap (λ (v : ℕ). units + v) (ap₂ ◌+◌ (k-held i.parts) (r_held i.parts))

  -- the ends of a start, where no forward command is left
  pub ends_are : (w' w j rest phi start : ℕ) → p.k ≤ j → Leading d start (item_in s at).forward w (p.k - j) rest → phi ≡ (held_in s p).phi → w' ≡ bit_and w phi
      → w' ≡ ends d (item_in s at).forward (item_in s at).phi start
  ends_are w' w j rest phi start l h e q =
      let none : p.k - j ≡ 0 = omega arith in reach-all d start (item_in s at).forward w w' (p.k - j) rest (item_in s at).phi phi none h (phi_is e) q

  -- the units so far are few
  pub few_made : {starts : List ℕ} {units : ℕ} {used : Bool} → Passed d (item_in s at) made starts units used → units + (p.k + p.r) ≤ 65600
  few_made h =
      let (b, a, e) = i.formed in
      let same : item_made d (item_in s at) ≡ item_made d (item (items_of b) (i.walk b a e).number) = ap (item_made d) (is b a e) in
      omega (arith, h.count, few_units d s b a e at made (i.walk b a e) i.more i.few, counts)

  -- ---- all starts passed: some of them was used, or none
  module _ {units : ℕ} {used : Bool} {starts : List ℕ} (h : Passed d (item_in s at) made starts units used) (none : starts ≡ []) where
    passed_all : (b : Book) (a : AllowedBook b) (e : bytes_of b ≡ s) → let x = item (items_of b) (i.walk b a e).number in
        (reverses d x ≡ true) × (effective d x ≡ used) × (units ≡ made + item_made d x)
    passed_all b a e =
        subst (λ (x : Item). (reverses d x ≡ true) × (effective d x ≡ used) × (units ≡ made + item_made d x)) (is b a e) (starts-done d (item_in s at) h none)

    pub goes_on : used ≡ true → (b : Book) → AllowedBook b → bytes_of b ≡ s → Walking d s b p.next units
    goes_on u b a e =
        let (r, f, m) = passed_all b a e in
        at_next d s b a e at made (i.walk b a e) i.more p.next (i.parts.next (there b a e)) (passes_both d _ r (f ∙ u)) units m

    pub never_used : used ≡ false → (b : Book) → AllowedBook b → bytes_of b ≡ s → d ≡ device_of b → Err (wrong_for at NotEffective units) ≡ judgement_of b
    never_used u b a e q =
        let (r, f, m) = passed_all b a e in found d s b a e at made (i.walk b a e) q i.more NotEffective (not_used d _ r (f ∙ u)) units m

  -- ---- a start failed
  pub turned_back : (units : ℕ) → (reverses d (item_in s at) ≡ false) × (units ≡ made + item_made d (item_in s at))
      → (b : Book) → AllowedBook b → bytes_of b ≡ s → d ≡ device_of b → Err (wrong_for at NoReversePlan units) ≡ judgement_of b
  turned_back units h b a e q =
      let (bad, m) = subst (λ (x : Item). (reverses d x ≡ false) × (units ≡ made + item_made d x)) (is b a e) h in
      found d s b a e at made (i.walk b a e) q i.more NoReversePlan (not_reversed d _ bad) units m
