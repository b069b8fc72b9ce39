-- The search for the lowest wrong weight, entry or slot, and the test that all weights are 1. Assumes nothing.
use mathlib.Core.Path.{◌≡◌, refl, sym, ap, ◌∙◌}
use mathlib.Core.Bool.{Bool, true, false, not, cond, ◌&&◌}
use Prim.Native.Nat.{ℕ, zero, suc, ◌+◌, ◌-◌, ◌<◌, ◌≤◌}
use native.Mathlib.Nat.{zero-add, add-zero}
use native.Mathlib.Numerals.{add-one}
use native.Mathlib.Decide.{dec_lt}
use native.Mathlib.Omega.{arith}
use mathlib.Core.List.{List, [], ◌∷◌}
use lib.ListN.{get_or}
use lib.Bits.{bit_or}
use Rattle.std.specs.Prelude.{Option, None, Some, Ok}
use Rattle.std.specs.Option.{option_map}
use Rattle.std.specs.List.{find, list_all, range_with_len}
use Rattle.base.specs.Tests.{pick, both}
use Rattle.base.specs.Compare.{same}
use lib.Dec.{eqb}
use Rattle.book.specs.Book.{all_one}
use Rattle.base.specs.Masks.{clear_from}
use Rattle.base.proofs.Tests.{T_true, true_t}
use Rattle.base.proofs.Masks.{clear↔, in_or_l, in_or_r}
use Rattle.base.specs.Bounded.{seek}
use Rattle.base.proofs.Picks as P
use Rattle.octets.specs.Parts.{piece}
use Rattle.writer.specs.Lowest.{entry_wrong, lowest_entry, unless_below, found_wrong}

-- ---- the lowest number that passes a test
first_wrong : (b : Bool) (i n m : ℕ) (o : Option ℕ) → i < n → found_wrong o ≡ unless_below m n (Ok tt)
    → found_wrong (cond b (Some i) o) ≡ unless_below (pick b i m) n (Ok tt)
unfolding pick
first_wrong true i n m o l e = P.less_yes _ _ _ i n l refl
first_wrong false i n m o l e = e

seek_wrong : (f : ℕ → Bool) (k i : ℕ) → found_wrong (find f (range_with_len i k)) ≡ unless_below (seek f i k) (i + k) (Ok tt)
unfolding seek
seek_wrong f zero i = P.less_no _ _ _ i (i + 0) (omega arith) refl
seek_wrong f (suc k) i =
    let e : i + suc k ≡ i + 1 + k = omega arith in
    first_wrong (f i) i (i + suc k) (seek f (suc i) k) (find f (range_with_len (i + 1) k)) (omega arith) (rw (e, ← add-one i) (seek_wrong f k (i + 1)))

itself : (o : Option ℕ) → o ≡ option_map (λ x. x) o
itself None = refl
itself (Some x) = refl

pub first_found : (f : ℕ → Bool) (k : ℕ) (r : Option ℕ) → option_map (λ x. x) r ≡ find f (range_with_len 0 k)
    → found_wrong r ≡ unless_below (seek f 0 k) k (Ok tt)
first_found f k r e = ap found_wrong (itself r ∙ e) ∙ (rw (zero-add k) at (seek_wrong f k 0))

-- none passes it
seek-none : (f : ℕ → Bool) (k i : ℕ) → ((x : ℕ) → i ≤ x → x < i + k → f x ≡ false) → i + k ≡ seek f i k
unfolding seek
seek-none f zero i h = add-zero i
seek-none f (suc k) i h =
    P.no _ _ _ (f i) (h i (omega arith) (omega arith))
    (let e : i + suc k ≡ suc i + k = omega arith in e ∙ seek-none f k (suc i) (λ x l b. h x (omega arith) (omega arith)))

no_entry : (n k : ℕ) (t : List ℕ) → ((i : ℕ) → i < k → clear_from n (get_or t i 0) ≡ true) → k ≡ lowest_entry n k t
unfolding lowest_entry
no_entry n k t h = sym (zero-add k) ∙ seek-none (entry_wrong n t) k 0 (λ x l b. ap not (h x (omega arith)))

pub no_wrong_entry : (n k : ℕ) (t : List ℕ) → ((i : ℕ) → i < k → clear_from n (get_or t i 0) ≡ true)
    → Ok tt ≡ unless_below (lowest_entry n k t) k (Ok tt)
no_wrong_entry n k t h = P.less_no _ _ _ (lowest_entry n k t) k (omega (arith, no_entry n k t h)) refl

-- ---- the union of the entries so far
clear_or : (n a b : ℕ) → clear_from n (bit_or a b) ≡ true → (clear_from n a ≡ true) × (clear_from n b ≡ true)
clear_or n a b e =
    let none = (clear↔ n (bit_or a b)).0 (true_t _ e) in
    (T_true _ ((clear↔ n a).1 (λ s h. none s (in_or_l a b s h))), T_true _ ((clear↔ n b).1 (λ s h. none s (in_or_r a b s h))))

pub union-again : (t : List ℕ) (i all : ℕ) → ((n j : ℕ) → j < i → clear_from n all ≡ true → clear_from n (get_or t j 0) ≡ true)
    → (n j : ℕ) → j < i + 1 → clear_from n (bit_or all (get_or t i 0)) ≡ true → clear_from n (get_or t j 0) ≡ true
union-again t i all h n j b e = go (dec_lt j i)
  where
    go : Dec (j < i) → clear_from n (get_or t j 0) ≡ true
    go (yes l) = h n j l (clear_or n all (get_or t i 0) e).0
    go (no l) = let f : j ≡ i = omega arith in rw f (clear_or n all (get_or t i 0) e).1

-- ---- the first k weights, from p on
both-is : (b x y : Bool) → x ≡ y → (b && x) ≡ both b y
unfolding both
both-is true x y e = e
both-is false x y e = refl

pub ones_of : (w : List ℕ) (k p : ℕ) → list_all (λ i. eqb (get_or w i 0) 1) (range_with_len p k) ≡ all_one (piece k w p)
unfolding piece all_one same
ones_of w zero p = refl
ones_of w (suc k) p =
    both-is (eqb (get_or w p 0) 1) _ _ (ap (λ (q : ℕ). list_all (λ i. eqb (get_or w i 0) 1) (range_with_len q k)) (add-one p) ∙ ones_of w k (suc p))

-- ---- the first k elements, from i on
pub piece-here : (w : List ℕ) (k i : ℕ) → i < k → piece (k - i) w i ≡ get_or w i 0 ∷ piece (k - (i + 1)) w (i + 1)
unfolding piece
piece-here w k i h =
    let e : k - i ≡ suc (k - (i + 1)) = omega arith in
    rw (e, add-one i)

pub piece-none : (w : List ℕ) (k i : ℕ) → k ≤ i → piece (k - i) w i ≡ []
unfolding piece
piece-none w k i h = let e : k - i ≡ 0 = omega arith in rw e
