-- The tests of 01's and 02's limits pass exactly where a device, a weight, a move or an item is allowed. Assumes nothing.
use mathlib.Core.Path.{◌≡◌, refl, sym, ap, ◌∙◌}
use mathlib.Core.Bool.{Bool, true, false, not, false≢true}
use mathlib.Core.List.{List, [], ◌∷◌}
use Prim.Native.Nat.{ℕ, ◌≤◌}
use native.Mathlib.Omega.{arith}
use borrow.Author.Tests.{not-false}
use lib.ListN.{length}
use Rattle.base.specs.Lists.{Each}
use Rattle.base.specs.Tests.{pick}
use Rattle.base.specs.Compare.{less, at_most, same}
use Rattle.base.specs.Masks.{clear_from}
use Rattle.base.proofs.Compare.{less_off, most_off, same_off}
use Rattle.base.proofs.Picks.{tests}
use Rattle.reversal.specs.Device.{Device}
use Rattle.reversal.specs.Reversal.{Item, AllowedItem}
use Rattle.reversal.specs.Weights.{AllowedWeight}
use Rattle.book.specs.Book.{Move, AllowedDevice, AllowedMove}
use Rattle.book.specs.Limits.{device_fine, weight_fine, weights_fine, move_fine, counts_fine, all_below, fields_fine}
use Rattle.book.proofs.Fields.{all_of, all_on, clear_of, clear_on}

-- a test that must fail, and what is tested after it
pub past : (t rest : Bool) → pick t false rest ≡ true → (t ≡ false) × (rest ≡ true)
unfolding pick
past true rest e = absurd (false≢true e)
past false rest e = (refl, e)

-- ---- n and m
module _ (n m : ℕ) where
  pub device_of_lem : AllowedDevice n m → device_fine n m ≡ true
  unfolding device_fine
  device_of_lem a = sym (search tests)

  pub device_on : device_fine n m ≡ true → AllowedDevice n m
  unfolding device_fine
  device_on e =
      let (a, e₁) = past (less n 1) _ e in
      let (b, e₂) = past (less 64 n) _ e₁ in
      let (c, e₃) = past (less m 1) _ e₂ in
      let (d, _) = past (less 32 m) _ e₃ in
      record { n_low = less_off n 1 a; n_high = less_off 64 n b; m_low = less_off m 1 c; m_high = less_off 32 m d }

  pub no_device : device_fine n m ≡ false → AllowedDevice n m → ⊥
  no_device e a = false≢true (sym e ∙ device_of_lem a)

  pub device_or_not : Dec (AllowedDevice n m)
  device_or_not = go (device_fine n m) refl
    where
      go : (t : Bool) → device_fine n m ≡ t → Dec (AllowedDevice n m)
      go true e = yes (device_on e)
      go false e = no (no_device e)

  pub device_off : (AllowedDevice n m → ⊥) → not (device_fine n m) ≡ true
  device_off f = go (device_fine n m) refl
    where
      go : (t : Bool) → device_fine n m ≡ t → not t ≡ true
      go true e = absurd (f (device_on e))
      go false e = refl

-- ---- weights
module _ (w : ℕ) where
  pub weight_of : AllowedWeight w → weight_fine w ≡ true
  unfolding weight_fine
  weight_of a = sym (search tests)

  pub weight_on : weight_fine w ≡ true → AllowedWeight w
  unfolding weight_fine
  weight_on e =
      let (a, e₁) = past (less w 1) _ e in
      let (b, _) = past (less 1000 w) _ e₁ in
      record { low = less_off w 1 a; high = less_off 1000 w b }

pub weights_of_lem : (ws : List ℕ) → Each AllowedWeight ws → weights_fine ws ≡ true
unfolding weights_fine
weights_of_lem [] h = refl
weights_of_lem (w ∷ ws) h =
    let k : weight_fine w ≡ true = weight_of w h.0 in
    let e : true ≡ weights_fine ws = sym (weights_of_lem ws h.1) in
    sym (search tests)

pub weights_on : (ws : List ℕ) → weights_fine ws ≡ true → Each AllowedWeight ws
unfolding weights_fine pick
weights_on [] e = tt
weights_on (w ∷ ws) e = go (weight_fine w) refl e (weights_on ws)
  where
    go : (t : Bool) → weight_fine w ≡ t → pick t (weights_fine ws) false ≡ true → (weights_fine ws ≡ true → Each AllowedWeight ws)
        → AllowedWeight w × Each AllowedWeight ws
    go true l e ih = (weight_on w l, ih e)
    go false l e ih = absurd (false≢true e)

-- ---- a move
module _ (n m : ℕ) (x : Move) where
  pub move_of_lem : AllowedMove n m x → move_fine n m x ≡ true
  unfolding move_fine
  move_of_lem a =
      let some : x.mask ≡ 0 → ⊥ = omega arith in
      let w : not (clear_from n x.mask) ≡ false = ap not (clear_of n x.mask a.states) in
      sym (search tests)

  pub move_on : move_fine n m x ≡ true → AllowedMove n m x
  unfolding move_fine
  move_on e =
      let (a, e₁) = past (at_most n x.state) _ e in
      let (b, e₂) = past (at_most m x.command) _ e₁ in
      let (c, e₃) = past (same x.mask 0) _ e₂ in
      let (d, _) = past (not (clear_from n x.mask)) _ e₃ in
      let nonzero : x.mask ≡ 0 → ⊥ = same_off x.mask 0 c in
      record {
        known_state = most_off n x.state a;
        known_command = most_off m x.command b;
        some = omega arith;
        states = clear_on n x.mask (not-false _ d);
      }

-- ---- the numbers of an item's commands
module _ (k r : ℕ) where
  pub counts_of : 1 ≤ k → k ≤ 8 → r ≤ 8 → counts_fine k r ≡ true
  unfolding counts_fine
  counts_of a b c = sym (search tests)

  pub counts_on : counts_fine k r ≡ true → (1 ≤ k) × (k ≤ 8) × (r ≤ 8)
  unfolding counts_fine
  counts_on e =
      let (a, e₁) = past (less k 1) _ e in
      let (b, e₂) = past (less 8 k) _ e₁ in
      let (c, _) = past (less 8 r) _ e₂ in
      (less_off k 1 a, less_off 8 k b, less_off 8 r c)

-- ---- an item
module _ (d : Device) (x : Item) where
  pub item_counts_of : AllowedItem d x → counts_fine (length x.forward) (length x.reverse) ≡ true
  item_counts_of a = counts_of (length x.forward) (length x.reverse) a.some a.most a.reverse_most

  pub item_fields_of : AllowedItem d x → fields_fine d.n d.m x ≡ true
  unfolding fields_fine
  item_fields_of a =
      let f : not (all_below d.m x.forward) ≡ false = ap not (all_of d.m x.forward a.forward_commands) in
      let r : not (all_below d.m x.reverse) ≡ false = ap not (all_of d.m x.reverse a.reverse_commands) in
      let p : not (clear_from d.n x.phi) ≡ false = ap not (clear_of d.n x.phi a.phi_states) in
      let q : not (clear_from d.n x.psi) ≡ false = ap not (clear_of d.n x.psi a.psi_states) in
      sym (search tests)

  pub item_on : counts_fine (length x.forward) (length x.reverse) ≡ true → fields_fine d.n d.m x ≡ true → AllowedItem d x
  unfolding fields_fine
  item_on c e =
      let (some, most, reverse_most) = counts_on (length x.forward) (length x.reverse) c in
      let (f, e₁) = past (not (all_below d.m x.forward)) _ e in
      let (r, e₂) = past (not (all_below d.m x.reverse)) _ e₁ in
      let (p, e₃) = past (not (clear_from d.n x.phi)) _ e₂ in
      let (q, _) = past (not (clear_from d.n x.psi)) _ e₃ in
      record {
        some = some;
        most = most;
        reverse_most = reverse_most;
        forward_commands = all_on d.m x.forward (not-false _ f);
        reverse_commands = all_on d.m x.reverse (not-false _ r);
        phi_states = clear_on d.n x.phi (not-false _ p);
        psi_states = clear_on d.n x.psi (not-false _ q);
      }
