-- The states present in a set: the computed row is the one that the definition asks for; the lowest and the set without it give it; its length.
-- Assumes nothing.
use mathlib.Core.Path.{◌≡◌, refl, sym, ap, ap₂, ◌∙◌}
use mathlib.Core.Bool.{Bool, true, false, false≢true}
use mathlib.Core.Logic.{◌⊎◌, inl, inr, ⊎_elim}
use mathlib.Core.List.{List, [], ◌∷◌, ◌++◌, append_assoc, append-nil}
use Prim.Native.Nat.{ℕ, zero, suc, ◌+◌, ◌/◌, ◌%◌, ◌^◌, ◌≤◌, ◌<◌}
use native.Mathlib.Nat.{le_of_suc-le-suc, eq-or-lt_of_le}
use native.Mathlib.Omega.{arith}
use lib.Count.{ones, ones_step}
use lib.Dec.{eqb}
use lib.ListN.{length, length-append}
use Rattle.base.specs.Sets.{In}
use Rattle.base.specs.Lists.{Each}
use Rattle.base.specs.Tests.{pick}
use Rattle.base.specs.Cardinality.{member, present, cardinality}
use Rattle.base.specs.Masks.{lowest_in, without}
use Rattle.base.specs.Present.{Ascending, Among, Present}
use Rattle.base.proofs.Tests.{T_true, true_t}
use Rattle.base.proofs.Parts.{each_append, each_map}
use Rattle.base.proofs.Masks.{half_member, member_in, in_member, without_self, without_other}
use Rattle.base.proofs.Trailing.{lowest-there, none-lower}

-- ---- rows
each_among : (P : ℕ → Type 0) (xs : List ℕ) → Each P xs → (s : ℕ) → Among s xs → P s
each_among P [] q s h = absurd h
each_among P (x ∷ xs) q s (inl e) = rw e q.0
each_among P (x ∷ xs) q s (inr h) = each_among P xs q.1 s h

among_left : (xs ys : List ℕ) (s : ℕ) → Among s xs → Among s (xs ++ ys)
among_left [] ys s h = absurd h
among_left (x ∷ xs) ys s (inl e) = inl e
among_left (x ∷ xs) ys s (inr h) = inr (among_left xs ys s h)

among_last : (xs : List ℕ) (s : ℕ) → Among s (xs ++ s ∷ [])
among_last [] s = inl refl
among_last (x ∷ xs) s = inr (among_last xs s)

ascending-last : (xs : List ℕ) (s : ℕ) → Ascending xs → Each (λ t. t < s) xs → Ascending (xs ++ s ∷ [])
ascending-last [] s r q = (tt, tt)
ascending-last (x ∷ xs) s r q = (each_append (λ t. x < t) xs (s ∷ []) r.0 (q.0, tt), ascending-last xs s r.1 q.1)

-- two rows in ascending order with the same numbers are one row
ascending-same : (xs ys : List ℕ) → Ascending xs → Ascending ys → ((s : ℕ) → Among s xs → Among s ys) → ((s : ℕ) → Among s ys → Among s xs) → xs ≡ ys
ascending-same [] [] p q f g = refl
ascending-same [] (y ∷ ys) p q f g = absurd (g y (inl refl))
ascending-same (x ∷ xs) [] p q f g = absurd (f x (inl refl))
ascending-same (x ∷ xs) (y ∷ ys) p q f g =
    ap₂ (λ (a : ℕ) (b : List ℕ). a ∷ b) first
    (ascending-same xs ys p.1 q.1 (λ s h. rest ys (above_x s h) (sym first) (f s (inr h))) (λ s h. rest xs (above_y s h) first (g s (inr h))))
  where
    above_x : (s : ℕ) → Among s xs → x < s
    above_x s h = each_among (λ t. x < t) xs p.0 s h

    above_y : (s : ℕ) → Among s ys → y < s
    above_y s h = each_among (λ t. y < t) ys q.0 s h

    first : x ≡ y
    first = go (f x (inl refl)) (g y (inl refl))
      where
        go : (x ≡ y) ⊎ Among x ys → (y ≡ x) ⊎ Among y xs → x ≡ y
        go (inl e) k = e
        go (inr h) (inl e) = sym e
        go (inr h) (inr k) = absurd (omega (arith, above_y x h, above_x y k))

    rest : {s a b : ℕ} (zs : List ℕ) → a < s → b ≡ a → (s ≡ b) ⊎ Among s zs → Among s zs
    rest zs l e (inl k) = absurd (omega arith)
    rest zs l e (inr h) = h

-- ---- the definition and its computed form
pub present-is : (n w : ℕ) → Present n w (present n w)
unfolding present pick
present-is zero w = record { ascending = tt; each_there = tt; none_missing = λ s l h. absurd (omega arith) }
present-is (suc n) w = go (member w n) refl (present-is n w)
  where
    wider : Each (λ s. (s < n) × In w s) (present n w) → Each (λ s. (s < suc n) × In w s) (present n w)
    wider = each_map {P = λ s. (s < n) × In w s} {Q = λ s. (s < suc n) × In w s} (λ s (l, h). (omega arith, h)) (present n w)

    go : (b : Bool) → member w n ≡ b → Present n w (present n w) → Present (suc n) w (present n w ++ pick b (n ∷ []) [])
    go true e p =
        record {
          ascending = ascending-last (present n w) n p.ascending (each_map {P = λ s. (s < n) × In w s} {Q = λ s. s < n} (λ s (l, h). l) (present n w) p.each_there);
          each_there =
              each_append (λ s. (s < suc n) × In w s) (present n w) (n ∷ []) (wider p.each_there)
              ((omega arith, member_in w n (true_t (member w n) e)), tt);
          none_missing = λ s l h. ⊎_elim (λ (q : s ≡ n). rw q (among_last (present n w) n))
              (λ (q : s < n). among_left (present n w) (n ∷ []) s (p.none_missing s q h)) (eq-or-lt_of_le (le_of_suc-le-suc l));
        }
    go false e p =
        rw (append-nil (present n w)) (
        record {
          ascending = p.ascending;
          each_there = wider p.each_there;
          none_missing = λ s l h. ⊎_elim
              (λ (q : s ≡ n). absurd (false≢true (sym e ∙ T_true (member w n) (in_member w n (rw q at h)))))
              (λ (q : s < n). p.none_missing s q h) (eq-or-lt_of_le (le_of_suc-le-suc l));
        }
        )

-- the definition leaves one row
pub present_unique : {n w : ℕ} {xs ys : List ℕ} → Present n w xs → Present n w ys → xs ≡ ys
present_unique {n} {w} {xs} {ys} p q = ascending-same xs ys p.ascending q.ascending (into p q) (into q p)
  where
    into : {xs ys : List ℕ} → Present n w xs → Present n w ys → (s : ℕ) → Among s xs → Among s ys
    into {xs} p q s h = let (l, k) = each_among (λ s. (s < n) × In w s) xs p.each_there s h in q.none_missing s l k

-- ---- by the lowest and the rest
pub present-same : (n a b : ℕ) → ((s : ℕ) → s < n → member a s ≡ member b s) → present n a ≡ present n b
unfolding present
present-same zero a b e = refl
present-same (suc n) a b e =
    ap₂ (λ (xs : List ℕ) (t : Bool). xs ++ pick t (n ∷ []) []) (present-same n a b (λ s l. e s (omega arith))) (e n (omega arith))

-- no state of w below n: none
pub present-end : (n w : ℕ) → n ≤ lowest_in w → present n w ≡ []
unfolding present pick
present-end zero w h = refl
present-end (suc n) w h = rw (present-end n w (omega arith), none-lower w n (omega arith))

-- the lowest, and then those of w without it
pub present-next : (n w : ℕ) → n ≤ 64 → lowest_in w < n → present n w ≡ lowest_in w ∷ present n (without w (lowest_in w))
unfolding present pick
present-next zero w l h = absurd (omega arith)
present-next (suc n) w l h = ⊎_elim here (λ b. later b (present-next n w (omega arith) b)) (eq-or-lt_of_le (le_of_suc-le-suc h))
  where
    in_w : In w (lowest_in w)
    in_w = lowest-there w (omega arith)

    others : (s : ℕ) → (s ≡ lowest_in w → ⊥) → member (without w (lowest_in w)) s ≡ member w s
    others = without_other w (lowest_in w) in_w

    here : lowest_in w ≡ n → present n w ++ pick (member w n) (n ∷ []) []
        ≡ lowest_in w ∷ (present n (without w (lowest_in w)) ++ pick (member (without w (lowest_in w)) n) (n ∷ []) [])
    here e =
        let none : present n w ≡ [] = present-end n w (omega arith) in
        let left : present n (without w (lowest_in w)) ≡ present n w = present-same n _ _ (λ s b. others s (λ z. omega arith)) in
        let yes : member w n ≡ true = ap (member w) (sym e) ∙ T_true (member w (lowest_in w)) (in_member w (lowest_in w) in_w) in
        let gone : member (without w (lowest_in w)) n ≡ false = ap (member (without w (lowest_in w))) (sym e) ∙ without_self w (lowest_in w) in_w in
        rw (left, none, yes, gone) (ap (λ (x : ℕ). x ∷ []) (sym e))

    later : lowest_in w < n → present n w ≡ lowest_in w ∷ present n (without w (lowest_in w)) → present n w ++ pick (member w n) (n ∷ []) []
        ≡ lowest_in w ∷ (present n (without w (lowest_in w)) ++ pick (member (without w (lowest_in w)) n) (n ∷ []) [])
    later b e = rw (e, others n (λ z. omega arith))

-- those below a state of w, and then it
pub present_split : (n w s : ℕ) → s < n → In w s → (rest : List ℕ) × (present n w ≡ present s w ++ s ∷ rest)
unfolding present pick
present_split zero w s l h = absurd (omega arith)
present_split (suc n) w s l h = ⊎_elim here (λ b. later (present_split n w s b h)) (eq-or-lt_of_le (le_of_suc-le-suc l))
  where
    here : s ≡ n → (rest : List ℕ) × (present n w ++ pick (member w n) (n ∷ []) [] ≡ present s w ++ s ∷ rest)
    here e = let t : member w n ≡ true = T_true (member w n) (in_member w n (rw e at h)) in ([], rw (t, e))

    later : (rest : List ℕ) × (present n w ≡ present s w ++ s ∷ rest)
        → (rest : List ℕ) × (present n w ++ pick (member w n) (n ∷ []) [] ≡ present s w ++ s ∷ rest)
    later (rest, e) = let last = pick (member w n) (n ∷ []) [] in (rest ++ last, rw e (append_assoc (present s w) (s ∷ rest) last))

-- ---- their number, the cardinality
one_more : (xs : List ℕ) (n : ℕ) (b : Bool) → length (xs ++ pick b (n ∷ []) []) ≡ length xs + pick b 1 0
unfolding pick
one_more xs n true = length-append xs (n ∷ [])
one_more xs n false = length-append xs []

-- of n + 1 states, those of n and the last
pub cardinality-suc : (n w : ℕ) → cardinality (suc n) w ≡ cardinality n w + pick (member w n) 1 0
unfolding present
cardinality-suc n w = one_more (present n w) n (member w n)

pub cardinality-le : (n w : ℕ) → cardinality n w ≤ n
unfolding present pick
cardinality-le zero w = omega arith
cardinality-le (suc n) w = omega (arith, cardinality-suc n w, cardinality-le n w, one (member w n))
  where
    one : (b : Bool) → pick b 1 0 ≤ 1
    one true = omega arith
    one false = omega arith

digit : (b : ℕ) → b < 2 → pick (eqb b 1) 1 0 ≡ b
unfolding pick
digit zero h = refl
digit (suc zero) h = refl
digit (suc (suc b)) h = absurd (omega arith)

-- the lowest, and those of the half
pub half_cardinality : (n w : ℕ) → cardinality (suc n) w ≡ w % 2 + cardinality n (w / 2)
unfolding present member
half_cardinality zero w = omega (arith, cardinality-suc 0 w, digit (w / 2 ^ 0 % 2) (omega arith))
half_cardinality (suc n) w =
    omega (arith, cardinality-suc (suc n) w, half_cardinality n w, ap one (half_member w n), cardinality-suc n (w / 2))
  where
    one : Bool → ℕ
    one b = pick b 1 0

-- it is the number of digits that are 1, as the kit counts them, where w has none from n on
pub cardinality-ones : (n w : ℕ) → w < 2 ^ n → cardinality n w ≡ ones w
unfolding present ones
cardinality-ones zero w h = let z : w ≡ 0 = omega arith in rw z
cardinality-ones (suc n) w h = half_cardinality n w ∙ ap (λ (x : ℕ). w % 2 + x) (cardinality-ones n (w / 2) (omega arith)) ∙ sym (ones_step w)
