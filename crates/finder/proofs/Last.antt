-- The last commands of rows, all found at once: the loops over the states and the starts, and the row that ends with one of them. Assumes nothing.
use mathlib.Core.Path.{◌≡◌, refl, sym, ap, ap₂, ◌∙◌, subst}
use mathlib.Core.Bool.{Bool, true, false, not}
use mathlib.Core.Logic.{⊎_elim}
use mathlib.Core.List.{List, [], ◌∷◌, ◌++◌, foldl}
use Prim.Native.Nat.{ℕ, zero, suc, ◌+◌, ◌-◌, ◌*◌, ◌/◌, ◌%◌, ◌^◌, ◌≤◌, ◌<◌}
use native.Mathlib.Nat.{eq-or-lt_of_le, mul_assoc, pow-suc, mod-lt}
use native.Mathlib.Numerals.{add-one}
use native.Mathlib.Omega.{arith}
use lib.Count.{count_trailing_zeros}
use lib.Dec.{T, eqb, eqb→eq, ltb→lt}
use lib.ListN.{get_or}
use lib.Pow.{pow_pos}
use Rattle.std.specs.Prelude.{Option, Some, None}
use Rattle.std.specs.Option.{option_or}
use Rattle.base.specs.Sets.{In, NoBitFrom}
use Rattle.base.specs.Lists.{Each}
use Rattle.base.specs.Tests.{pick, both, imp}
use Rattle.base.specs.Bounded.{all}
use Rattle.base.specs.Cardinality.{member, present}
use Rattle.base.specs.Masks.{clear_from}
use Rattle.base.proofs.Tests.{T_true, eq_t, both_l, both_r, both_of, imp_use, imp_of, test_same}
use Rattle.base.proofs.Bounded.{all_at, all_of}
use Rattle.base.proofs.Masks.{member_in, in_member, not-member, in_zero, in_one, one_in, union_in, in_union, pick_in, in_pick, alone, nonzero_some, some_nonzero, some-state, below_clear, clear↔}
use Rattle.base.proofs.Trailing.{trailing_zeros_lowest}
use Rattle.base.proofs.Visiting.{gathered, all_so_far, all_gathered, all_failed}
use Rattle.base.proofs.Visits.{low_same, member-low}
use Rattle.octets.specs.Le.{bytes_le}
use Rattle.reversal.specs.Device.{Device}
use Rattle.reversal.specs.Computed.Sets.{after, able, runs_back}
use Rattle.states.specs.StateSets.{after_in, able_in}
use Rattle.states.proofs.Laws.{in_limits_lem, after-limits, able-limits}
use Rattle.states.proofs.Row.{row_below, each_below}
use Rattle.checker.specs.Contract.{returns_in}
use Rattle.finder.specs.Contract.{Passing, all_back, tries, lowest_row}
use Rattle.finder.proofs.Passes.{passing_same, none_pass, either_not, all-commands, fails_on}

-- ---- a loop over states: the commands that pass so far, which with the states to come give those of the whole
module _ (g : ℕ → ℕ → Bool) (n m : ℕ) where
  pub record Asking (whole : ℕ → Bool) (commands : ℕ) (states : List ℕ) : Type 0 where
    pub below : Each (λ s. s < n) states
    pub low : NoBitFrom m commands
    pub each : (c : ℕ) → c < m → foldl (all_so_far (g c)) (member commands c) states ≡ whole c

  pub ask_first : (w commands : ℕ) {whole : ℕ → Bool} → n ≤ 64 → NoBitFrom m commands
      → ((c : ℕ) → c < m → gathered (all_so_far (g c)) n (member commands c) w ≡ whole c) → Asking whole commands (present 64 (w % 2 ^ n))
  ask_first w commands few low e = rw (row_below n w few) (record { below = each_below n w; low = low; each = e })

  module _ (whole : ℕ → Bool) (commands : ℕ) (states : List ℕ) (a : Asking whole commands states) where
    pub ask_next : (s : ℕ) (states' : List ℕ) → states ≡ s ∷ states' → (commands' : ℕ) → Passing m (λ c. both (member commands c) (g c s)) commands'
        → Asking whole commands' states'
    ask_next s states' split commands' p =
        record {
          below = (rw split at a.below).1;
          low = p.low;
          each = λ c l. ap (λ (b : Bool). foldl (all_so_far (g c)) b states') (p.each c l) ∙ (rw split at (a.each c l));
        }

    pub ask_end : states ≡ [] → Passing m whole commands
    ask_end z = record { low = a.low; each = λ c l. rw z at (a.each c l) }

    -- no command is left
    pub ask_none : commands ≡ 0 → Passing m whole 0
    ask_none z =
        none_pass m (λ c l. sym (a.each c l)
        ∙ ap (λ (b : Bool). foldl (all_so_far (g c)) b states) (ap (λ (w : ℕ). member w c) z ∙ not-member 0 c (in_zero c)) ∙ fails_on (g c) states)

-- ---- one command: the set is brought back by it where the set has a state, and each leads to the start alone
module _ (d : Device) (S : ℕ) where
  abbrev pub to_start : ℕ → ℕ → Bool
  to_start c s = eqb (d.outcomes s c) (2 ^ S)

  abbrev able_at : ℕ → ℕ → ℕ → Bool
  able_at w c s = imp (member w s) (not (eqb (d.outcomes s c) 0))

  abbrev outcomes_at : ℕ → ℕ → ℕ → ℕ
  outcomes_at w c s = pick (member w s) (d.outcomes s c) 0

  abbrev each_to : ℕ → ℕ → ℕ → Bool
  each_to w c s = imp (member w s) (to_start c s)

  empty_out : (w c : ℕ) → w % 2 ^ d.n ≡ 0 → runs_back d w (c ∷ []) S ≡ false
  unfolding runs_back after
  empty_out w c z = test_same (runs_back d w (c ∷ []) S) false
      (λ t.
      let e = eqb→eq (after d c w) (2 ^ S) (both_r (able d c w) (eqb (after d c w) (2 ^ S)) t) in
      let (s, l, h) = union_in (outcomes_at w c) d.n S (rw e (in_one S)) in
      let (k, i) = pick_in (member w s) (d.outcomes s c) S h in
      in_zero s (rw z at (member_in (w % 2 ^ d.n) s (rw (member-low d.n w s l) k))))
      (λ t. absurd t)

  each_back : (w c : ℕ) → (w % 2 ^ d.n ≡ 0 → ⊥) → runs_back d w (c ∷ []) S ≡ all (each_to w c) d.n
  unfolding runs_back after able
  each_back w c f = test_same (both (able d c w) (eqb (after d c w) (2 ^ S))) (all (each_to w c) d.n) forth back
    where
      forth : T (both (able d c w) (eqb (after d c w) (2 ^ S))) → T (all (each_to w c) d.n)
      forth t =
          let e = eqb→eq (after d c w) (2 ^ S) (both_r (able d c w) (eqb (after d c w) (2 ^ S)) t) in
          all_of (each_to w c) d.n (λ s l. imp_of (member w s) (to_start c s) (λ k.
          let (u, q) = nonzero_some (d.outcomes s c) (imp_use (member w s) (not (eqb (d.outcomes s c) 0))
          (all_at (able_at w c) d.n (both_l (able d c w) (eqb (after d c w) (2 ^ S)) t) s l) k) in
          eq_t (alone (d.outcomes s c) S u q
          (λ v i. one_in S v (rw e at (in_union (outcomes_at w c) d.n v s l (in_pick (member w s) (d.outcomes s c) v k i)))))))

      here : T (all (each_to w c) d.n) → (s : ℕ) → s < d.n → T (member w s) → d.outcomes s c ≡ 2 ^ S
      here t s l k = eqb→eq (d.outcomes s c) (2 ^ S) (imp_use (member w s) (to_start c s) (all_at (each_to w c) d.n t s l) k)

      back : T (all (each_to w c) d.n) → T (both (able d c w) (eqb (after d c w) (2 ^ S)))
      back t =
          let (s, q) = some-state (w % 2 ^ d.n) (omega (arith, f)) in
          let l : s < d.n = below_clear d.n (w % 2 ^ d.n) (mod-lt w (pow_pos d.n)) s q in
          let k : T (member w s) = subst T (member-low d.n w s l) (in_member (w % 2 ^ d.n) s q) in
          both_of (able d c w) (eqb (after d c w) (2 ^ S))
          (all_of (able_at w c) d.n (λ r b. imp_of (member w r) (not (eqb (d.outcomes r c) 0)) (λ j. some_nonzero (d.outcomes r c) S (rw (here t r b j) (in_one S)))))
          (eq_t (alone (after d c w) S S
          (in_union (outcomes_at w c) d.n S s l (in_pick (member w s) (d.outcomes s c) S k (rw (here t s l k) (in_one S))))
          (λ v i.
          let (r, b, h) = union_in (outcomes_at w c) d.n v i in
          let (j, o) = pick_in (member w r) (d.outcomes r c) v h in
          one_in S v (rw (here t r b j) at o))))

  -- the loop over the states of the set below n
  abbrev pub whole_from : ℕ → ℕ → ℕ → Bool
  whole_from commands rest c = gathered (all_so_far (to_start c)) d.n (member commands c) rest

  abbrev pub pass_from : ℕ → ℕ → ℕ → Bool
  pass_from commands set c = both (member commands c) (runs_back d set (c ∷ []) S)

  module _ (m commands set rest : ℕ) (e : rest ≡ set % 2 ^ d.n) where
    pub from_start : d.n ≤ 64 → NoBitFrom m commands → Asking to_start d.n m (whole_from commands rest) commands (present 64 rest)
    from_start few low =
        rw e (ask_first to_start d.n m set commands few low (λ c l. sym (low_same (all_so_far (to_start c)) d.n (member commands c) set)))

    pub from_empty : rest ≡ 0 → Passing m (pass_from commands set) 0
    from_empty z = none_pass m (λ c l. either_not (member commands c) (empty_out set c (sym e ∙ z)))

    pub from_all : (rest ≡ 0 → ⊥) → (w : ℕ) → Passing m (whole_from commands rest) w → Passing m (pass_from commands set) w
    unfolding both
    from_all some w p = passing_same p (λ c l. go c (member commands c))
      where
        go : (c : ℕ) (b : Bool) → gathered (all_so_far (to_start c)) d.n b rest ≡ both b (runs_back d set (c ∷ []) S)
        go c true =
            ap (gathered (all_so_far (to_start c)) d.n true) e ∙ low_same (all_so_far (to_start c)) d.n true set ∙ all_gathered (to_start c) d.n set
            ∙ sym (each_back set c (λ z. some (e ∙ z)))
        go c false = all_failed (to_start c) d.n rest

  -- ---- the commands before it
  abbrev pub back_with : ℕ → List ℕ → ℕ → Bool
  back_with w cs c = runs_back d w (cs ++ (c ∷ [])) S

  -- those that are left, from the set, with the last one
  abbrev pub Behind : (ℕ → Bool) → ℕ → List ℕ → Type 0
  Behind whole w cs = (c : ℕ) → back_with w cs c ≡ whole c

  module _ (hn : d.n ≤ 64) (hm : d.m ≤ 32) (whole : ℕ → Bool) (w : ℕ) (left : List ℕ) (h : Behind whole w left) where
    module _ (b : ℕ) (left' : List ℕ) (e : left ≡ b ∷ left') where
      one-command : (c : ℕ) → both (able d b w) (runs_back d (after d b w) (left' ++ (c ∷ [])) S) ≡ whole c
      unfolding runs_back
      one-command c = rw e at (h c)

      pub behind_next : (w' : ℕ) → able_in d b w ≡ true → w' ≡ after_in d b w → Behind whole w' left'
      unfolding both
      behind_next w' t q c =
          ap (λ (v : ℕ). back_with v left' c) (q ∙ after-limits d b w hn hm) ∙ (rw (sym (able-limits d b w hn hm) ∙ t) at (one-command c))

      pub behind_stuck : able_in d b w ≡ false → (c : ℕ) → whole c ≡ false
      unfolding both
      behind_stuck f c = sym (rw (sym (able-limits d b w hn hm) ∙ f) at (one-command c))

    pub behind_none : left ≡ [] → (c : ℕ) → runs_back d w (c ∷ []) S ≡ whole c
    behind_none e c = rw e at (h c)

-- ---- all starts
module _ (d : Device) (kept row : List ℕ) where
  -- the start comes back from its ends by the row and the last command c
  abbrev pub back_by : ℕ → ℕ → Bool
  back_by c S = returns_in d (get_or kept S 0) (row ++ (c ∷ [])) S

  pub in_reach : d.n ≤ 64 → d.m ≤ 32 → (c S : ℕ) → runs_back d (get_or kept S 0) (row ++ (c ∷ [])) S ≡ back_by c S
  unfolding returns_in pick
  in_reach hn hm c S = rw (in_limits_lem d.n d.m hn hm)

  abbrev pub whole_back : ℕ → ℕ → Bool
  whole_back starts c = all_back d kept starts (row ++ (c ∷ []))

  pub starts_first : (m commands used : ℕ) → d.n ≤ 64 → commands ≡ 2 ^ m - 1 → Asking back_by d.n m (whole_back used) commands (present 64 (used % 2 ^ d.n))
  unfolding all_back
  starts_first m commands used few e =
      ask_first back_by d.n m used commands few (below_clear m commands (omega (arith, e, pow_pos m)))
      (λ c l. ap (λ (b : Bool). gathered (all_so_far (back_by c)) d.n b used) (ap (λ (w : ℕ). member w c) e ∙ all-commands m c l) ∙ all_gathered (back_by c) d.n used)

-- ---- a row that ends with one more command
shifted : (row p : ℕ) → ((row + p * 256) % 256 ≡ row % 256) × ((row + p * 256) / 256 ≡ row / 256 + p)
shifted row p = (omega arith, omega arith)

last_byte : (k row c : ℕ) → row < 256 ^ k → c < 256 → bytes_le (suc k) (row + c * 256 ^ k) ≡ bytes_le k row ++ (c ∷ [])
unfolding bytes_le
last_byte zero row c h l = let e : (row + c * 256 ^ 0) % 256 ≡ c = omega (arith, h, l) in rw e
last_byte (suc k) row c h l =
    let p = c * 256 ^ k in
    let e : c * 256 ^ suc k ≡ p * 256 = ap (λ (x : ℕ). c * x) (pow-suc 256 k) ∙ sym (mul_assoc c (256 ^ k) 256) in
    let few : row / 256 < 256 ^ k = omega (arith, h, pow-suc 256 k) in
    let (a, b) = shifted row p in
    ap₂ (λ (x : ℕ) (y : List ℕ). x ∷ y) (ap (λ (x : ℕ). (row + x) % 256) e ∙ a)
    (ap (λ (x : ℕ). bytes_le (suc k) ((row + x) / 256)) e ∙ ap (bytes_le (suc k)) b ∙ last_byte k (row / 256) c few l)

pub last-command : (count left row c : ℕ) → left ≡ 1 → row < 256 ^ count → c < 256
    → bytes_le count row ++ (c ∷ []) ≡ bytes_le (count + left) (row + c * 256 ^ count)
last-command count left row c one h b = rw (one, add-one) (sym (last_byte count row c h b))

-- ---- the lowest of them is what the search from 0 up finds
tries-none : (f : ℕ → Option ℕ) (n c : ℕ) → ((b : ℕ) → c ≤ b → b < c + n → f b ≡ None) → tries f c n ≡ None
unfolding tries
tries-none f zero c e = refl
tries-none f (suc n) c e =
    ap (λ (x : Option ℕ). option_or x (tries f (suc c) n)) (e c (omega arith) (omega arith)) ∙ tries-none f n (suc c) (λ b l h. e b (omega (arith, l)) (omega (arith, h)))

tries-first : (f : ℕ → Option ℕ) (x y : ℕ) → f x ≡ Some y → (n c : ℕ) → c ≤ x → x < c + n → ((b : ℕ) → c ≤ b → b < x → f b ≡ None) → tries f c n ≡ Some y
unfolding tries
tries-first f x y q zero c l h e = absurd (omega (arith, l, h))
tries-first f x y q (suc n) c l h e =
    ⊎_elim (λ (s : c ≡ x). ap (λ (z : Option ℕ). option_or z (tries f (suc c) n)) (ap f s ∙ q))
    (λ (s : c < x). ap (λ (z : Option ℕ). option_or z (tries f (suc c) n)) (e c (omega arith) s)
    ∙ tries-first f x y q n (suc c) s (omega (arith, h)) (λ b i j. e b (omega (arith, i)) j)) (eq-or-lt_of_le l)

module _ (test : ℕ → Bool) (m left place row : ℕ) (one : left ≡ 1) (w : ℕ) (p : Passing m (λ c. test (row + c * place)) w) where
  abbrev with : ℕ → Option ℕ
  with c = lowest_row test m 0 (place * 256) (row + c * place)

  only_one : tries with 0 m ≡ lowest_row test m left place row
  unfolding lowest_row
  only_one = rw one

  with_yes : (c : ℕ) → test (row + c * place) ≡ true → with c ≡ Some (row + c * place)
  unfolding lowest_row pick
  with_yes c t = rw t

  with_no : (c : ℕ) → test (row + c * place) ≡ false → with c ≡ None
  unfolding lowest_row pick
  with_no c t = rw t

  out : (c : ℕ) → c < m → (In w c → ⊥) → with c ≡ None
  out c l f = with_no c (sym (p.each c l) ∙ not-member w c f)

  pub last_none : w ≡ 0 → None ≡ lowest_row test m left place row
  last_none z = sym (tries-none with m 0 (λ b l h. out b (omega (arith, h)) (λ i. in_zero b (rw z at i)))) ∙ only_one

  module _ (some : w ≡ 0 → ⊥) (few : m ≤ 32) where
    abbrev lowest : ℕ
    lowest = count_trailing_zeros 64 w

    word : w < 2 ^ 64
    unfolding clear_from
    word = ltb→lt w (2 ^ 64) ((clear↔ 64 w).1 (λ s h. omega (arith, few, p.low s h)))

    pub last-low : lowest < m
    last-low = p.low lowest (trailing_zeros_lowest w some word).there

    pub last_found : Some (row + lowest * place) ≡ lowest_row test m left place row
    last_found =
        let low = trailing_zeros_lowest w some word in
        sym (tries-first with lowest (row + lowest * place)
        (with_yes lowest (sym (p.each lowest last-low) ∙ T_true _ (in_member w lowest low.there))) m 0 (omega arith) (omega (arith, last-low))
        (λ b l h. out b (omega (arith, h, last-low)) (low.first b h)))
        ∙ only_one
