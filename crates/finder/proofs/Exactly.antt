-- What the search finds is 02's reverse, and none only where there is none: with the check of each item on sets, and with the ends that the code keeps.
-- Assumes nothing.
use mathlib.Core.Path.{◌≡◌, refl, sym, ap, ◌∙◌, subst}
use mathlib.Core.Bool.{Bool, true, false, not, false≢true}
use mathlib.Core.Logic.{◌⊎◌, inl, inr, ◌↔◌}
use mathlib.Core.List.{List, [], ◌∷◌, ◌++◌}
use Prim.Native.Nat.{ℕ, zero, suc, ◌+◌, ◌*◌, ◌-◌, ◌/◌, ◌%◌, ◌≤◌, ◌<◌}
use native.Mathlib.Nat.{sub-zero}
use native.Mathlib.Omega.{arith}
use lib.Dec.{T, eqb}
use lib.ListN.{length, get_or, replicate}
use Rattle.base.specs.Sets.{In, NoBitFrom}
use Rattle.base.specs.Lists.{Each, Bytes}
use Rattle.base.specs.Tests.{pick, both, imp}
use Rattle.base.specs.Cardinality.{member}
use Rattle.base.proofs.Tests.{both_l, both_r, both_of, imp_use, imp_of}
use Rattle.base.proofs.Bounded.{all_at, all_of, any_at, any_of}
use Rattle.base.proofs.Masks.{member_in, in_member, in_zero, some-state}
use Rattle.octets.specs.Le.{bytes_le}
use Rattle.octets.specs.Parts.{le}
use Rattle.octets.proofs.Le.{bytes_le-le}
use Rattle.reversal.specs.Device.{Device, Proper}
use Rattle.reversal.specs.Reversal.{AllowedItem, Accepted}
use Rattle.reversal.specs.Computed.Sets.{runs_back, ends, start_ok, reverses, start_used, effective, accepts}
use Rattle.reversal.proofs.Reversals.{accepts↔, effective↔}
use Rattle.book.specs.Limits.{counts_fine, fields_fine}
use Rattle.book.proofs.Limits.{item_counts_of, item_fields_of, item_on}
use Rattle.states.proofs.Laws.{in_limits_lem}
use Rattle.checker.specs.Contract.{returns_in}
use Rattle.finder.specs.declared.Found.{Found}
use Rattle.finder.specs.Finds.{Sought, item_of, Makes, FirstOf, MayHold, refusal, reverse_is}
use Rattle.finder.specs.Contract.{holds, EndsKept, all_back, shortest_row, found_in}
use Rattle.finder.proofs.Rows.{ShortestIs, shortest-row}

-- ---- what some item may hold

module _ (d : Device) (q : Sought) where
  -- with any other reverse commands of the device, up to 8
  held_with : MayHold d q → (cs : List ℕ) → length cs ≤ 8 → Each (λ c. c < d.m) cs → AllowedItem d (item_of q cs)
  held_with (ds, a) cs few below =
      record {
        some = a.some;
        most = a.most;
        reverse_most = few;
        forward_commands = a.forward_commands;
        reverse_commands = below;
        phi_states = a.phi_states;
        psi_states = a.psi_states;
      }

  holds_on : holds d.n d.m q ≡ true → MayHold d q
  unfolding holds pick
  holds_on e = go (counts_fine (length q.forward) 0) refl e
    where
      go : (b : Bool) → counts_fine (length q.forward) 0 ≡ b → pick b (fields_fine d.n d.m (item_of q [])) false ≡ true → MayHold d q
      go true c f = ([], item_on d (item_of q []) c f)
      go false c f = absurd (false≢true f)

  holds_of : MayHold d q → holds d.n d.m q ≡ true
  unfolding holds pick
  holds_of h =
      let a : AllowedItem d (item_of q []) = held_with h [] (omega arith) tt in
      rw (item_counts_of d (item_of q []) a) (item_fields_of d (item_of q []) a)

  pub holds↔ : (holds d.n d.m q ≡ true) ↔ MayHold d q
  holds↔ = (holds_on, holds_of)

-- ---- a row of commands as the answer's bytes

padded : (n : ℕ) (cs : List ℕ) → length cs ≤ n → Bytes cs → bytes_le n (le cs) ≡ cs ++ replicate (n - length cs) 0
unfolding bytes_le
padded zero [] l h = refl
padded zero (c ∷ cs) l h = absurd (omega arith)
padded (suc n) [] l h = rw (sub-zero (suc n)) (ap (λ (xs : List ℕ). 0 ∷ xs) (padded n [] (omega arith) tt ∙ ap (λ (k : ℕ). replicate k 0) (sub-zero n)))
padded (suc n) (c ∷ cs) l h =
    let k : c < 256 = h.0 in
    let p : (c + 256 * le cs) % 256 ≡ c = omega arith in
    let q : (c + 256 * le cs) / 256 ≡ le cs = omega arith in
    let r : suc n - suc (length cs) ≡ n - length cs = omega arith in
    rw (p, q, r) (ap (λ (xs : List ℕ). c ∷ xs) (padded n cs (omega arith) h.1))

-- commands of a device are bytes
bytes_of : (m : ℕ) → m ≤ 32 → (cs : List ℕ) → Each (λ c. c < m) cs → Bytes cs
bytes_of m l [] h = tt
bytes_of m l (c ∷ cs) (b, h) = (omega (arith, b), bytes_of m l cs h)

-- ---- what the search says, for any test of rows that is right

abbrev pub Says : Device → Sought → Found → Type 0
Says d q r = ((r ≡ refusal 15 0) × ((cs : List ℕ) → Makes d q cs → ⊥)) ⊎ ((cs : List ℕ) × FirstOf d q cs × (r ≡ reverse_is cs))

-- a row of at most 3 commands passes where the item with it is accepted
abbrev Right : Device → Sought → (ℕ → ℕ → Bool) → Type 0
Right d q test = (cs : List ℕ) → length cs ≤ 3 → Each (λ c. c < d.m) cs → T (test (length cs) (le cs)) ↔ Accepted d (item_of q cs)

module _ (d : Device) (few : d.m ≤ 32) (q : Sought) (hold : MayHold d q) where
  search_says : (test : ℕ → ℕ → Bool) → Right d q test → (r : Found) → r ≡ shortest_row test d.m 0 4 → Says d q r
  search_says test right r p = go (shortest_row test d.m 0 4) p (shortest-row test d.m 4 0)
    where
      passes : (cs : List ℕ) → Makes d q cs → T (test (length cs) (le cs))
      passes cs k = (right cs (omega (arith, k.short)) k.allowed.reverse_commands).1 k.accepted

      go : (x : Found) → r ≡ x → ShortestIs test d.m 0 4 x → Says d q r
      go x e (inl (z, none)) = inl (e ∙ z, λ cs k. none cs (omega arith) (omega (arith, k.short)) k.allowed.reverse_commands (passes cs k))
      go x e (inr (cs, z, s)) =
          let short : length cs ≤ 3 = omega (arith, s.high) in
          let bytes : Bytes cs = bytes_of d.m few cs s.below in
          inr (
            cs,
            record {
              makes =
                  record {
                    short = omega (arith, short);
                    allowed = held_with d q hold cs (omega arith) s.below;
                    accepted = (right cs short s.below).0 s.passes;
                  };
              shortest = λ ds k. omega (arith, s.shortest ds (omega arith) k.allowed.reverse_commands (passes ds k));
              lowest = λ ds k same. s.lowest ds k.allowed.reverse_commands (passes ds k) same;
            },
            e ∙ z ∙ ap (λ (xs : List ℕ). record { code = 0; place = 0; count = length cs; commands = xs }) (padded 3 cs short bytes),
          )

  module _ (proper : Proper d) where
    -- the states of psi are the device's
    psi_below : NoBitFrom d.n q.psi
    psi_below = hold.1.psi_states

    -- a test of lists of commands, on rows
    right_on : (f : List ℕ → Bool) → ((cs : List ℕ) → T (f cs) ↔ T (accepts d (item_of q cs))) → Right d q (λ count row. f (bytes_le count row))
    right_on f same cs short below =
        let e : bytes_le (length cs) (le cs) ≡ cs = bytes_le-le (length cs) cs refl (bytes_of d.m few cs below) in
        let (to, from) = accepts↔ d proper (item_of q cs) psi_below in (
          λ t. to ((same cs).0 (subst (λ (xs : List ℕ). T (f xs)) e t)),
          λ a. subst (λ (xs : List ℕ). T (f xs)) (sym e) ((same cs).1 (from a)),
        )

    -- ---- by the check of each item on sets
    pub found-says : (r : Found) → r ≡ found_in d q → Says d q r
    unfolding found_in pick
    found-says r e =
        search_says (λ count row. accepts d (item_of q (bytes_le count row))) (right_on (λ cs. accepts d (item_of q cs)) (λ cs. ((λ t. t), λ t. t))) r
        (e ∙ rw ((holds↔ d q).1 hold))

    -- ---- with the ends that the code keeps
    module _ (low : d.n ≤ 64) {kept : List ℕ} {used : ℕ} (keeps : EndsKept d q kept used) where
      returns_is : (w : ℕ) (cs : List ℕ) (S : ℕ) → returns_in d w cs S ≡ runs_back d w cs S
      unfolding returns_in pick
      returns_is w cs S = rw (in_limits_lem d.n d.m low few)

      -- a start that is used
      used_on : (S : ℕ) → S < d.n → T (member q.psi S) → T (not (eqb (ends d q.forward q.phi S) 0)) → T (member used S)
      unfolding start_used
      used_on S l a b = subst T (sym (keeps.starts S l)) (both_of (member q.psi S) (not (eqb (ends d q.forward q.phi S) 0)) a b)

      used_of : (S : ℕ) → S < d.n → T (member used S) → T (member q.psi S) × T (not (eqb (ends d q.forward q.phi S) 0))
      unfolding start_used
      used_of S l u =
          let a = member q.psi S in
          let b = not (eqb (ends d q.forward q.phi S) 0) in
          let t : T (both a b) = subst T (keeps.starts S l) u in
          (both_l a b t, both_r a b t)

      module _ (cs : List ℕ) where
        abbrev back : ℕ → Bool
        back S = imp (member used S) (returns_in d (get_or kept S 0) cs S)

        abbrev start : ℕ → Bool
        start S = imp (member q.psi S) (start_ok d (item_of q cs) S)

        -- from its ends, as they are kept
        kept_back : (S : ℕ) → S < d.n → T (member used S) → returns_in d (get_or kept S 0) cs S ≡ runs_back d (ends d q.forward q.phi S) cs S
        kept_back S l u = returns_is (get_or kept S 0) cs S ∙ ap (λ (w : ℕ). runs_back d w cs S) (keeps.stored S l u)

        back_reverses : T (all_back d kept used cs) → T (reverses d (item_of q cs))
        unfolding all_back reverses start_ok
        back_reverses t =
            all_of start d.n (λ S l.
            let w = ends d q.forward q.phi S in
            imp_of (member q.psi S) (start_ok d (item_of q cs) S) (λ a.
            imp_of (not (eqb w 0)) (runs_back d w cs S) (λ b.
            let u : T (member used S) = used_on S l a b in
            subst T (kept_back S l u) (imp_use (member used S) (returns_in d (get_or kept S 0) cs S) (all_at back d.n t S l) u))))

        reverses_back : T (reverses d (item_of q cs)) → T (all_back d kept used cs)
        unfolding all_back reverses start_ok
        reverses_back t =
            all_of back d.n (λ S l.
            let w = ends d q.forward q.phi S in
            imp_of (member used S) (returns_in d (get_or kept S 0) cs S) (λ u.
            let (a, b) = used_of S l u in
            subst T (sym (kept_back S l u))
            (imp_use (not (eqb w 0)) (runs_back d w cs S) (imp_use (member q.psi S) (start_ok d (item_of q cs) S) (all_at start d.n t S l) a) b)))

        -- some start is used
        some_used : (used ≡ 0 → ⊥) → T (effective d (item_of q cs))
        unfolding effective start_used
        some_used n =
            let (S, h) = some-state used (omega (arith, n)) in
            let l = keeps.low S h in
            any_of (start_used d (item_of q cs)) d.n S l (subst T (keeps.starts S l) (in_member used S h))

        back↔ : (used ≡ 0 → ⊥) → T (all_back d kept used cs) ↔ T (accepts d (item_of q cs))
        unfolding accepts
        back↔ n =
            let x = item_of q cs in (
              λ t. both_of (reverses d x) (effective d x) (back_reverses t) (some_used n),
              λ t. reverses_back (both_l (reverses d x) (effective d x) t),
            )

      pub kept-says : (used ≡ 0 → ⊥) → (r : Found) → r ≡ shortest_row (λ count row. all_back d kept used (bytes_le count row)) d.m 0 4 → Says d q r
      kept-says n r e = search_says (λ count row. all_back d kept used (bytes_le count row)) (right_on (all_back d kept used) (λ cs. back↔ cs n)) r e

-- where no start is used, no item is effective
pub none_used : (d : Device) → Proper d → (q : Sought) {kept : List ℕ} {used : ℕ} → EndsKept d q kept used → used ≡ 0 → (cs : List ℕ) → Makes d q cs → ⊥
unfolding effective start_used
none_used d proper q {kept} {used} keeps z cs k =
    let x = item_of q cs in
    let (S, l, u) = any_at (start_used d x) d.n ((effective↔ d proper x k.allowed.psi_states).1 k.accepted.effective) in
    in_zero S (subst (λ (w : ℕ). In w S) z (member_in used S (subst T (sym (keeps.starts S l)) u)))
