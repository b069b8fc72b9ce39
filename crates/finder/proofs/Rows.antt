-- The search finds the lowest row of commands that passes a test, of the shortest, and none only where there is none. Assumes nothing.
use mathlib.Core.Path.{◌≡◌, refl, sym, ap, ◌∙◌, subst}
use mathlib.Core.Bool.{Bool, true, false}
use mathlib.Core.Logic.{◌⊎◌, inl, inr}
use mathlib.Core.List.{List, [], ◌∷◌}
use Prim.Native.Nat.{ℕ, zero, suc, ◌+◌, ◌*◌, ◌≤◌, ◌<◌}
use native.Mathlib.Nat.{not-suc-le-zero}
use native.Mathlib.Omega.{arith}
use native.Mathlib.Decide.{dec_lt}
use lib.Dec.{T}
use lib.ListN.{length}
use Rattle.std.specs.Prelude.{Option, Some, None}
use Rattle.std.specs.Option.{option_or, option_map_or}
use Rattle.base.specs.Lists.{Each}
use Rattle.base.specs.Tests.{pick}
use Rattle.octets.specs.Parts.{le}
use Rattle.reversal.specs.Chains.{LexLe}
use Rattle.finder.specs.declared.Found.{Found}
use Rattle.finder.specs.Finds.{refusal}
use Rattle.finder.specs.Contract.{tries, lowest_row, answer, shortest_row}

-- k commands below m
record RowOf (m k : ℕ) (cs : List ℕ) : Type 0 where
  pub size : length cs ≡ k
  pub below : Each (λ c. c < m) cs

tail_row : {m k c : ℕ} {ds : List ℕ} → RowOf m (suc k) (c ∷ ds) → RowOf m k ds
tail_row r = record { size = omega (arith, r.size); below = r.below.1 }

-- ---- rows of k more commands behind `row`, where the next has the value `place`

-- x is the row with cs behind it, which passes, and no other that passes is lower at the first difference
record Lowest (test : ℕ → Bool) (m k place row x : ℕ) (cs : List ℕ) : Type 0 where
  pub is_row : RowOf m k cs
  pub value : x ≡ row + place * le cs
  pub passes : T (test x)
  pub lowest : (ds : List ℕ) → RowOf m k ds → T (test (row + place * le ds)) → LexLe cs ds

-- what an answer of the search says
abbrev LowestIs : (ℕ → Bool) → ℕ → ℕ → ℕ → ℕ → Option ℕ → Type 0
LowestIs test m k place row None = (ds : List ℕ) → RowOf m k ds → T (test (row + place * le ds)) → ⊥
LowestIs test m k place row (Some x) = (cs : List ℕ) × Lowest test m k place row x cs

-- the command c, then those of ds
further : (place row c x : ℕ) → (row + c * place) + place * 256 * x ≡ row + place * (c + 256 * x)
further place row c x = omega arith

module _ (test : ℕ → Bool) (m k place row : ℕ) (f : ℕ → Option ℕ) (found : (c : ℕ) → LowestIs test m k (place * 256) (row + c * place) (f c)) where
  -- no row that goes on below c passes
  abbrev NoneBelow : ℕ → Type 0
  NoneBelow c = (b : ℕ) → b < c → (ds : List ℕ) → RowOf m k ds → T (test (row + place * le (b ∷ ds))) → ⊥

  behind : (c : ℕ) (ds : List ℕ) → T (test (row + place * le (c ∷ ds))) → T (test (row + c * place + place * 256 * le ds))
  behind c ds t = subst (λ (x : ℕ). T (test x)) (sym (further place row c (le ds))) t

  tries-lowest : (n c : ℕ) → c + n ≡ m → NoneBelow c → LowestIs test m (suc k) place row (tries f c n)
  unfolding tries
  tries-lowest zero c e none = go
    where
      go : (ds : List ℕ) → RowOf m (suc k) ds → T (test (row + place * le ds)) → ⊥
      go [] r t = absurd (omega (arith, r.size))
      go (b ∷ ds) r t = none b (omega (arith, e, r.below.0)) ds (tail_row r) t
  tries-lowest (suc n) c e none = go (f c) (found c) (tries-lowest n (suc c) (omega (arith, e)))
    where
      go : (x : Option ℕ) → LowestIs test m k (place * 256) (row + c * place) x → (NoneBelow (suc c) → LowestIs test m (suc k) place row (tries f (suc c) n))
          → LowestIs test m (suc k) place row (option_or x (tries f (suc c) n))
      go None q more = more below
        where
          below : NoneBelow (suc c)
          below b l ds r t = at (dec_lt b c)
            where
              at : Dec (b < c) → ⊥
              at (yes h) = none b h ds r t
              at (no h) = let same : b ≡ c = omega (arith, l, h) in q ds r (behind c ds (subst (λ (x : ℕ). T (test (row + place * le (x ∷ ds)))) same t))
      go (Some x) (cs, q) more = (
        c ∷ cs,
        record {
          is_row = record { size = ap suc q.is_row.size; below = (omega (arith, e), q.is_row.below) };
          value = q.value ∙ further place row c (le cs);
          passes = q.passes;
          lowest = lowest;
        },
      )
        where
          lowest : (ds : List ℕ) → RowOf m (suc k) ds → T (test (row + place * le ds)) → LexLe (c ∷ cs) ds
          lowest [] r t = absurd (omega (arith, r.size))
          lowest (b ∷ ds) r t = at (dec_lt c b) (dec_lt b c)
            where
              at : Dec (c < b) → Dec (b < c) → (c < b) ⊎ ((c ≡ b) × LexLe cs ds)
              at (yes h) _ = inl h
              at (no h) (yes g) = absurd (none b g ds (tail_row r) t)
              at (no h) (no g) =
                  let same : c ≡ b = omega (arith, h, g) in
                  inr (same, q.lowest ds (tail_row r) (behind c ds (subst (λ (x : ℕ). T (test (row + place * le (x ∷ ds)))) (sym same) t)))

lowest-row : (test : ℕ → Bool) (m k place row : ℕ) → LowestIs test m k place row (lowest_row test m k place row)
unfolding lowest_row pick
lowest-row test m zero place row = go (test row) refl
  where
    here : row ≡ row + place * 0
    here = omega arith

    go : (b : Bool) → test row ≡ b → LowestIs test m 0 place row (pick b (Some row) None)
    go true e = (
      [],
      record { is_row = record { size = refl; below = tt }; value = here; passes = subst T (sym e) tt; lowest = λ ds r t. tt },
    )
    go false e = none
      where
        none : (ds : List ℕ) → RowOf m 0 ds → T (test (row + place * le ds)) → ⊥
        none [] r t = subst T e (subst (λ (x : ℕ). T (test x)) (sym here) t)
        none (x ∷ ds) r t = absurd (omega (arith, r.size))
lowest-row test m (suc k) place row =
    tries-lowest test m k place row (λ c. lowest_row test m k (place * 256) (row + c * place)) (λ c. lowest-row test m k (place * 256) (row + c * place)) m 0 (omega arith)
    none
  where
    none : (b : ℕ) → b < 0 → (ds : List ℕ) → RowOf m k ds → T (test (row + place * le (b ∷ ds))) → ⊥
    none b l ds r t = absurd (not-suc-le-zero l)

-- ---- rows of k commands, then of one more, n lengths in all: the shortest, among equals the lowest

abbrev Passes : (ℕ → ℕ → Bool) → List ℕ → Type 0
Passes test cs = T (test (length cs) (le cs))

pub record Shortest (test : ℕ → ℕ → Bool) (m k n : ℕ) (cs : List ℕ) : Type 0 where
  pub below : Each (λ c. c < m) cs
  pub passes : Passes test cs
  pub low : k ≤ length cs
  pub high : length cs < k + n
  pub shortest : (ds : List ℕ) → k ≤ length ds → Each (λ c. c < m) ds → Passes test ds → length cs ≤ length ds
  pub lowest : (ds : List ℕ) → Each (λ c. c < m) ds → Passes test ds → length ds ≡ length cs → LexLe cs ds

-- what an answer of the search says
abbrev pub ShortestIs : (ℕ → ℕ → Bool) → ℕ → ℕ → ℕ → Found → Type 0
ShortestIs test m k n r =
    ((r ≡ refusal 15 0) × ((ds : List ℕ) → k ≤ length ds → length ds < k + n → Each (λ c. c < m) ds → Passes test ds → ⊥))
    ⊎ ((cs : List ℕ) × (r ≡ answer (length cs) (le cs)) × Shortest test m k n cs)

module _ (test : ℕ → ℕ → Bool) (m : ℕ) where
  from_one : (x : ℕ) → x ≡ 0 + 1 * x
  from_one x = omega arith

  -- a row of k commands
  row_of : (k : ℕ) (ds : List ℕ) → length ds ≡ k → Each (λ c. c < m) ds → Passes test ds → RowOf m k ds × T (test k (0 + 1 * le ds))
  row_of k ds e b t = (
    record { size = e; below = b },
    subst (λ (x : ℕ). T (test k x)) (from_one (le ds)) (subst (λ (j : ℕ). T (test j (le ds))) e t),
  )

  pub shortest-row : (n k : ℕ) → ShortestIs test m k n (shortest_row test m k n)
  unfolding shortest_row
  shortest-row zero k = inl (refl, λ ds l h b t. omega (arith, l, h))
  shortest-row (suc n) k = go (lowest_row (test k) m k 1 0) (lowest-row (test k) m k 1 0) (shortest_row test m (suc k) n) (shortest-row n (suc k))
    where
      go : (x : Option ℕ) → LowestIs (test k) m k 1 0 x → (y : Found) → ShortestIs test m (suc k) n y → ShortestIs test m k (suc n) (option_map_or (answer k) x y)
      go (Some x) (cs, q) y s =
          let e : k ≡ length cs = sym q.is_row.size in
          let v : x ≡ le cs = q.value ∙ sym (from_one (le cs)) in
          inr (
            cs,
            ap (answer k) v ∙ ap (λ (j : ℕ). answer j (le cs)) e,
            record {
              below = q.is_row.below;
              passes = subst (λ (j : ℕ). T (test j (le cs))) e (subst (λ (j : ℕ). T (test k j)) v q.passes);
              low = omega (arith, e);
              high = omega (arith, e);
              shortest = λ ds l b t. omega (arith, e, l);
              lowest = λ ds b t same. let (r, u) = row_of k ds (same ∙ sym e) b t in q.lowest ds r u;
            },
          )
      go None q y (inl (e, s)) = inl (e, none)
        where
          none : (ds : List ℕ) → k ≤ length ds → length ds < k + suc n → Each (λ c. c < m) ds → Passes test ds → ⊥
          none ds l h b t = at (dec_lt k (length ds))
            where
              at : Dec (k < length ds) → ⊥
              at (yes g) = s ds g (omega (arith, h)) b t
              at (no g) = let (r, u) = row_of k ds (omega (arith, l, g)) b t in q ds r u
      go None q y (inr (cs, e, s)) = inr (
        cs,
        e,
        record {
          below = s.below;
          passes = s.passes;
          low = omega (arith, s.low);
          high = omega (arith, s.high);
          shortest = shortest;
          lowest = s.lowest;
        },
      )
        where
          shortest : (ds : List ℕ) → k ≤ length ds → Each (λ c. c < m) ds → Passes test ds → length cs ≤ length ds
          shortest ds l b t = at (dec_lt k (length ds))
            where
              at : Dec (k < length ds) → length cs ≤ length ds
              at (yes g) = s.shortest ds g b t
              at (no g) = let (r, u) = row_of k ds (omega (arith, l, g)) b t in absurd (q ds r u)
