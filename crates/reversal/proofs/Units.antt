-- The units that the check on sets makes are those that 02 says: all of them for what is accepted, and no more than these otherwise; for an item that
-- is no conditional reverse plan, those up to where a start fails, by trajectories. What 02 says leaves one number only. Assumes nothing.
use mathlib.Core.Path.{◌≡◌, refl, sym, ap, ◌∙◌, subst}
use mathlib.Core.Bool.{Bool, true, false, not, false≢true}
use mathlib.Core.Logic.{◌⊎◌, inl, inr}
use mathlib.Core.List.{List, [], ◌∷◌, ◌++◌}
use Prim.Native.Nat.{ℕ, zero, suc, ◌+◌, ◌*◌, ◌≤◌, ◌<◌}
use native.Mathlib.Nat.{suc-mul, zero-mul, mul-le-mul, mul-le-mul_right}
use native.Mathlib.Omega.{arith}
use lib.Dec.{T, eqb, eqb→eq}
use lib.ListN.{length, get_or, take, length-append}
use Rattle.base.specs.Sets.{In, NoBitFrom}
use Rattle.base.specs.Lists.{Each}
use Rattle.base.specs.Tests.{pick, imp}
use Rattle.base.specs.Bounded.{seek}
use Rattle.base.specs.Cardinality.{member, present, cardinality}
use Rattle.base.proofs.Tests.{T_true, true_t, both_l, both_r, imp_use, imp_of}
use Rattle.base.proofs.Bounded.{all_at, all_of}
use Rattle.base.proofs.Parts.{each_map}
use Rattle.base.proofs.Lowest.{Tells, fails, passes, lowest-wrong, one-lowest}
use Rattle.base.proofs.Masks.{member_in, in_member, in_zero, pick_in, union_in}
use Rattle.base.proofs.Present.{present-is, present_split, cardinality-le}
use Rattle.reversal.specs.Device.{Device, Proper}
use Rattle.reversal.specs.Reversal.{Item, AllowedItem}
use Rattle.reversal.specs.Chains.{item}
use Rattle.reversal.specs.Units.{start_units, item_units, sum_units, ComesBack, FirstFailing, CarriedOut, UnitsOfFailing, stuck, outside, UnitsToFailure}
use Rattle.reversal.specs.Computed.Sets.{after, able, reach, runs_back, ends, start_ok, reverses, effective, accepts}
use Rattle.reversal.specs.Computed.Units.{back_units, start_made, starts_made, item_made, items_made}
use Rattle.reversal.proofs.Paths.{led→leads, leads→led}
pub use Rattle.reversal.proofs.Most.{back_most, items-most}
use Rattle.reversal.proofs.Reversals.{able_at_lem, able_of, reach_in, in_reach, reach-states, ends_in, in_ends, ends-states, start↔}

-- ---- all of them
module _ (d : Device) where
  -- a command is applied to an empty set too
  able-empty : (c w : ℕ) → ((s : ℕ) → In w s → ⊥) → T (able d c w)
  unfolding able
  able-empty c w f =
      all_of (λ s. imp (member w s) (not (eqb (d.outcomes s c) 0))) d.n (λ s l.
      imp_of (member w s) (not (eqb (d.outcomes s c) 0)) (λ q. absurd (f s (member_in w s q))))

  after-empty : (c w : ℕ) → ((s : ℕ) → In w s → ⊥) → (t : ℕ) → In (after d c w) t → ⊥
  unfolding after
  after-empty c w f t h =
      let (s, l, q) = union_in (λ s. pick (member w s) (d.outcomes s c) 0) d.n t h in
      f s (member_in w s (pick_in (member w s) (d.outcomes s c) t q).0)

  back_empty : (cs : List ℕ) (w : ℕ) → ((t : ℕ) → In w t → ⊥) → back_units d w cs ≡ length cs
  unfolding back_units pick
  back_empty [] w f = refl
  back_empty (c ∷ cs) w f = rw (T_true (able d c w) (able-empty c w f)) (ap suc (back_empty cs (after d c w) (after-empty c w f)))

  back_all : (cs : List ℕ) (w S : ℕ) → T (runs_back d w cs S) → back_units d w cs ≡ length cs
  unfolding back_units runs_back pick
  back_all [] w S t = refl
  back_all (c ∷ cs) w S t = rw (T_true (able d c w) (both_l (able d c w) _ t)) (ap suc (back_all cs (after d c w) S (both_r (able d c w) _ t)))

  module _ (x : Item) where
    -- a start that passes has all its units, without ends too
    pub start-all : (S : ℕ) → T (start_ok d x S) → start_made d x S ≡ start_units x
    unfolding start_made start_ok
    start-all S t = ap (λ (k : ℕ). length x.forward + k) (go (eqb E 0) refl)
      where
        E : ℕ
        E = ends d x.forward x.phi S

        go : (b : Bool) → eqb E 0 ≡ b → back_units d E x.reverse ≡ length x.reverse
        go true e = back_empty x.reverse E (λ s h. in_zero s (rw (eqb→eq E 0 (true_t _ e)) at h))
        go false e = back_all x.reverse E S (imp_use (not (eqb E 0)) (runs_back d E x.reverse S) t (true_t _ (ap not e)))

    starts-all : (xs : List ℕ) → Each (λ S. T (start_ok d x S)) xs → starts_made d x xs ≡ length xs * start_units x
    unfolding starts_made pick
    starts-all [] h = sym (zero-mul (start_units x))
    starts-all (S ∷ xs) h =
        rw (T_true (start_ok d x S) h.0) (omega (arith, start-all S h.0, starts-all xs h.1, suc-mul (length xs) (start_units x)))

    -- those of the states below a bound that are in psi
    starts_pass : (n : ℕ) → ((S : ℕ) → S < n → In x.psi S → T (start_ok d x S)) → Each (λ S. T (start_ok d x S)) (present n x.psi)
    starts_pass n f =
        each_map {P = λ S. (S < n) × In x.psi S} {Q = λ S. T (start_ok d x S)} (λ S (l, h). f S l h) (present n x.psi) (present-is n x.psi).each_there

    pub item-all : T (reverses d x) → item_made d x ≡ item_units d.n x
    unfolding item_made reverses
    item-all t = starts-all (present d.n x.psi) (starts_pass d.n (λ S l h.
        imp_use (member x.psi S) (start_ok d x S) (all_at (λ S. imp (member x.psi S) (start_ok d x S)) d.n t S l) (in_member x.psi S h)))

    -- up to the first start that fails
    starts_first : (xs : List ℕ) (S : ℕ) (rest : List ℕ) → Each (λ s. T (start_ok d x s)) xs → start_ok d x S ≡ false
        → starts_made d x (xs ++ S ∷ rest) ≡ length xs * start_units x + start_made d x S
    unfolding starts_made pick
    starts_first [] S rest h f = rw f (omega (arith, zero-mul (start_units x)))
    starts_first (s ∷ xs) S rest h f =
        rw (T_true (start_ok d x s) h.0) (omega (arith, start-all s h.0, starts_first xs S rest h.1 f, suc-mul (length xs) (start_units x)))

  pub items-all : (xs : List Item) → Each (λ x. T (accepts d x)) xs → items_made d xs ≡ sum_units d.n xs
  unfolding items_made accepts pick
  items-all [] h = refl
  items-all (x ∷ xs) h =
      rw (T_true (accepts d x) h.0) (omega (arith, item-all x (both_l (reverses d x) (effective d x) h.0), items-all xs h.1))

  -- up to the first item that is not accepted
  pub items-first : (xs : List Item) (i : ℕ) → i < length xs → ((j : ℕ) → j < i → T (accepts d (item xs j))) → accepts d (item xs i) ≡ false
      → items_made d xs ≡ sum_units d.n (take i xs) + item_made d (item xs i)
  unfolding items_made accepts pick
  items-first [] i l h f = absurd (omega arith)
  items-first (x ∷ xs) zero l h f = rw f (omega arith)
  items-first (x ∷ xs) (suc i) l h f =
      let t = h 0 (omega arith) in
      rw (T_true (accepts d x) t)
      (omega (arith, item-all x (both_l (reverses d x) (effective d x) t), items-first xs i (omega arith) (λ j b. h (suc j) (omega arith)) f))

-- ---- where a start fails, by trajectories
module _ (d : Device) (proper : Proper d) (x : Item) (starts : NoBitFrom d.n x.psi) where
  -- the set after the first j reverse commands
  abbrev back_to : ℕ → List ℕ → ℕ → ℕ
  back_to w cs j = reach d w (take j cs)

  -- a reverse run is stuck at some command, or all are carried out
  abbrev StuckAt : ℕ → List ℕ → ℕ → Type 0
  StuckAt w cs j =
      (j < length cs) × (able d (get_or cs j 0) (back_to w cs j) ≡ false) × ((i : ℕ) → i < j → T (able d (get_or cs i 0) (back_to w cs i)))
      × (back_units d w cs ≡ suc j)

  abbrev NeverStuck : ℕ → List ℕ → Type 0
  NeverStuck w cs = ((i : ℕ) → i < length cs → T (able d (get_or cs i 0) (back_to w cs i))) × (back_units d w cs ≡ length cs)

  back_ways : (cs : List ℕ) (w : ℕ) → ((j : ℕ) × StuckAt w cs j) ⊎ NeverStuck w cs
  unfolding back_units reach pick
  back_ways [] w = inr ((λ i l. absurd (omega arith)), refl)
  back_ways (c ∷ cs) w = go (able d c w) refl (back_ways cs (after d c w))
    where
      first : T (able d c w) → (P : ℕ → Type 0) → ((i : ℕ) → P (suc i) → T (able d (get_or cs i 0) (reach d (after d c w) (take i cs))))
          → (i : ℕ) → P i → T (able d (get_or (c ∷ cs) i 0) (reach d w (take i (c ∷ cs))))
      first t P f zero l = t
      first t P f (suc i) l = f i l

      go : (b : Bool) → able d c w ≡ b → ((j : ℕ) × StuckAt (after d c w) cs j) ⊎ NeverStuck (after d c w) cs
          → ((j : ℕ) × StuckAt w (c ∷ cs) j) ⊎ NeverStuck w (c ∷ cs)
      go false e ih = inl (0, (omega arith, e, (λ i l. absurd (omega arith)), rw e))
      go true e (inl (j, (l, f, h, u))) =
          inl (suc j, (omega arith, f, first (true_t _ e) (λ i. i < suc j) (λ i b. h i (omega arith)), rw e (ap suc u)))
      go true e (inr (h, u)) = inr (first (true_t _ e) (λ i. i < suc (length cs)) (λ i b. h i (omega arith)), rw e (ap suc u))

  module _ (S : ℕ) (below : S < d.n) where
    -- the ends of S
    abbrev E : ℕ
    E = ends d x.forward x.phi S

    carried_on : (j : ℕ) → T (able d (get_or x.reverse j 0) (back_to E x.reverse j)) → CarriedOut d x S j
    carried_on j t s (e, he, l, m) =
        let q = in_reach d proper (take j x.reverse) E e s (in_ends d proper x starts S e he (leads→led d x.forward S e l)) (leads→led d (take j x.reverse) e s m) in
        able_at_lem d proper (get_or x.reverse j 0) (back_to E x.reverse j) t s
        (reach-states d proper (take j x.reverse) E (ends-states d proper x starts S below) s q) q

    carried_of : (j : ℕ) → CarriedOut d x S j → T (able d (get_or x.reverse j 0) (back_to E x.reverse j))
    carried_of j f =
        able_of d proper (get_or x.reverse j 0) (back_to E x.reverse j) (λ s h.
        let (e, a, l) = reach_in d proper (take j x.reverse) E s h in
        let (he, m) = ends_in d proper x starts S e a in
        f s (e, he, led→leads d x.forward S e m, led→leads d (take j x.reverse) e s l))

    units_of_failing : UnitsOfFailing d x S (start_made d x S)
    unfolding start_made
    units_of_failing = go (back_ways x.reverse E)
      where
        go : ((j : ℕ) × StuckAt E x.reverse j) ⊎ NeverStuck E x.reverse → UnitsOfFailing d x S (length x.forward + back_units d E x.reverse)
        go (inl (j, (l, f, h, u))) =
            stuck (record { inside = l; wrong = λ p. false≢true (sym f ∙ T_true _ (carried_of j p)); before = λ i b. carried_on i (h i b) }) (rw u)
        go (inr (h, u)) = outside (λ i l. carried_on i (h i l)) (rw u)

  -- the test of one state: a start in psi passes
  abbrev passes_at : ℕ → Bool
  passes_at S = imp (member x.psi S) (start_ok d x S)

  tells : Tells passes_at (λ S. In x.psi S → ComesBack d x S) d.n
  tells =
      record {
        on = λ S l e h. (start↔ d proper x starts S l).0 (imp_use (member x.psi S) (start_ok d x S) (true_t _ e) (in_member x.psi S h));
        of = λ S l p. T_true _ (imp_of (member x.psi S) (start_ok d x S) (λ h. (start↔ d proper x starts S l).1 (p (member_in x.psi S h))));
      }

  abbrev first_failing : ℕ
  first_failing = seek (λ S. not (passes_at S)) 0 d.n

  some_fails : reverses d x ≡ false → first_failing < d.n
  unfolding reverses
  some_fails f = lower (λ l. false≢true (sym f ∙ T_true _ (all_of passes_at d.n (λ S b. true_t _ (passes passes_at d.n S (omega arith) b)))))
    where
      lower : (d.n ≤ first_failing → ⊥) → first_failing < d.n
      lower g = omega arith

  fails_there : (b c : Bool) → imp b c ≡ false → T b × (c ≡ false)
  unfolding imp
  fails_there true c e = (tt, e)
  fails_there false c e = absurd (false≢true (sym e))

  -- what 02 says of 8
  pub units_to_failure : reverses d x ≡ false → UnitsToFailure d x (item_made d x)
  unfolding item_made
  units_to_failure f =
      let S = first_failing in
      let l = some_fails f in
      let (t, e) = fails_there (member x.psi S) (start_ok d x S) (fails passes_at d.n l) in
      let (rest, split) = present_split d.n x.psi S l (member_in x.psi S t) in
      let pass = starts_pass d x S (λ s b h.
      imp_use (member x.psi s) (start_ok d x s) (true_t _ (passes passes_at d.n s b (omega arith))) (in_member x.psi s h)) in
      record {
        start = S;
        failing = lowest-wrong passes_at d.n tells l;
        last = start_made d x S;
        stops = units_of_failing S l;
        total = ap (starts_made d x) split ∙ starts_first d x (present S x.psi) S rest pass e;
      }

-- ---- 02 leaves one number
module _ (d : Device) (x : Item) where
  failing_unique : {S a b : ℕ} → UnitsOfFailing d x S a → UnitsOfFailing d x S b → a ≡ b
  failing_unique (stuck f e) (stuck g q) = e ∙ ap (λ (j : ℕ). length x.forward + suc j) (one-lowest f g) ∙ sym q
  failing_unique (stuck f e) (outside g q) = absurd (f.wrong (g _ f.inside))
  failing_unique (outside g e) (stuck f q) = absurd (f.wrong (g _ f.inside))
  failing_unique (outside f e) (outside g q) = e ∙ sym q

  pub to_failure_unique : {a b : ℕ} → UnitsToFailure d x a → UnitsToFailure d x b → a ≡ b
  to_failure_unique u v =
      let s : u.start ≡ v.start = one-lowest u.failing v.failing in
      let l : u.last ≡ v.last = failing_unique (subst (λ (S : ℕ). UnitsOfFailing d x S u.last) s u.stops) v.stops in
      u.total ∙ rw (s, l) (sym v.total)

-- ---- 02: "at most the forecast on 8 or 12"
module _ (d : Device) (x : Item) where
  last_within : {S units : ℕ} → UnitsOfFailing d x S units → units ≤ start_units x
  last_within (stuck f e) = omega (arith, f.inside)
  last_within (outside f e) = omega arith

  -- the starts before the failing one, and it
  one_fewer : {S : ℕ} → FirstFailing d x S → cardinality S x.psi < cardinality d.n x.psi
  one_fewer {S} f =
      let (rest, e) = present_split d.n x.psi S f.inside in_psi in
      omega (arith, ap length e, length-append (present S x.psi) (S ∷ rest))
    where
      in_psi : In x.psi S
      in_psi = go (member x.psi S) refl
        where
          go : (b : Bool) → member x.psi S ≡ b → In x.psi S
          go true e = member_in x.psi S (true_t _ e)
          go false e = absurd (f.wrong (λ h. absurd (false≢true (sym e ∙ T_true _ (in_member x.psi S h)))))

  pub to_failure_within : {units : ℕ} → UnitsToFailure d x units → units ≤ item_units d.n x
  to_failure_within u =
      omega (
        arith,
        u.total,
        last_within u.stops,
        suc-mul (cardinality u.start x.psi) (start_units x),
        mul-le-mul_right (start_units x) (one_fewer u.failing),
      )

-- ---- the sum, item by item
pub sum-next : (n : ℕ) (xs : List Item) (i : ℕ) → i < length xs → sum_units n (take (suc i) xs) ≡ sum_units n (take i xs) + item_units n (item xs i)
sum-next n [] i l = absurd (omega arith)
sum-next n (x ∷ xs) zero l = omega arith
sum-next n (x ∷ xs) (suc i) l = omega (arith, sum-next n xs i (omega arith))

pub sum-front : (n : ℕ) (xs : List Item) (i : ℕ) → sum_units n (take i xs) ≤ sum_units n xs
sum-front n [] zero = omega arith
sum-front n [] (suc i) = omega arith
sum-front n (x ∷ xs) zero = omega arith
sum-front n (x ∷ xs) (suc i) = omega (arith, sum-front n xs i)

-- ---- the bound
item_bound : (n : ℕ) (d : Device) (x : Item) → n ≤ 64 → AllowedItem d x → item_units n x ≤ 1024
item_bound n d x few a = mul-le-mul {n₂ = 64} {m₂ = 16} (omega (arith, cardinality-le n x.psi)) (omega (arith, a.most, a.reverse_most))

pub sum_bound : (n : ℕ) (d : Device) (xs : List Item) → n ≤ 64 → Each (AllowedItem d) xs → sum_units n xs ≤ 1024 * length xs
sum_bound n d [] few a = omega arith
sum_bound n d (x ∷ xs) few a = omega (arith, item_bound n d x few a.0, sum_bound n d xs few a.1)
