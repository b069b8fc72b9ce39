-- The text that the code puts, part after part. Assumes nothing.
use mathlib.Core.Path.{◌≡◌, refl, sym, ap, ap₂, ◌∙◌, subst}
use mathlib.Core.List.{List, [], ◌∷◌, ◌++◌, append-nil, append_assoc}
use Prim.Native.Nat.{ℕ, zero, suc, ◌+◌, ◌-◌, ◌*◌, min}
use native.Mathlib.Omega.{arith}
use lib.ListN.{length, get_or, take, drop, replicate}
use Rattle.reversal.specs.Chains.{Leg}
use Rattle.assembly.specs.LegsRead.{leg_read, legs_read}
use Rattle.show.specs.declared.Text.{Text}
use Rattle.show.specs.Show.{newline, space, right_aligned}
use Rattle.show.specs.Adds.{Adds}
use Rattle.show.proofs.Texts.{added, same_part, take_min}
use Rattle.paper.specs.Layout.{widths, columns, joined, line_of, lines_from}

-- ---- the commands
-- blank columns
blank_columns : (m : ℕ) → joined (columns (replicate m 3) []) ≡ replicate (3 * m) space
unfolding columns joined
blank_columns zero = refl
blank_columns (suc m) =
    let e : 3 * suc m ≡ suc (suc (suc (3 * m))) = omega arith in
    rw (e, blank_columns m)

-- numbers in columns of three characters
abbrev pub in_threes : List ℕ → List ℕ
in_threes [] = []
in_threes (n ∷ ns) = right_aligned 3 n ++ in_threes ns

pub threes_more : (ns : List ℕ) (n : ℕ) → in_threes ns ++ right_aligned 3 n ≡ in_threes (ns ++ (n ∷ []))
threes_more [] n = sym (append-nil (right_aligned 3 n))
threes_more (m ∷ ns) n = append_assoc (right_aligned 3 m) (in_threes ns) (right_aligned 3 n) ∙ ap (λ (t : List ℕ). right_aligned 3 m ++ t) (threes_more ns n)

-- m columns: the first m numbers, and blanks
threes_blanks : (m : ℕ) (ns : List ℕ) → in_threes (take m ns) ++ replicate (3 * (m - length ns)) space ≡ joined (columns (replicate m 3) ns)
unfolding columns joined
threes_blanks zero ns = let e : 3 * (0 - length ns) ≡ 0 = omega arith in rw e
threes_blanks (suc m) [] = let e : suc m - 0 ≡ suc m = omega arith in rw e (sym (blank_columns (suc m)))
threes_blanks (suc m) (n ∷ ns) =
    let e : suc m - suc (length ns) ≡ m - length ns = omega arith in
    rw e (append_assoc (right_aligned 3 n) (in_threes (take m ns)) (replicate (3 * (m - length ns)) space)
    ∙ ap (λ (t : List ℕ). right_aligned 3 n ++ t) (threes_blanks m ns))

pub commands_done : {s t u : Text} (commands : List ℕ) (k : ℕ) → k ≡ min (length commands) 8 → Adds s (in_threes (take k commands)) t
    → Adds t (replicate (3 * (8 - k)) space) u → Adds s (joined (columns (drop 5 widths) commands)) u
commands_done commands k e a b =
    let m : k ≡ min 8 (length commands) = omega arith in
    let f : take k commands ≡ take 8 commands = ap (λ (x : ℕ). take x commands) m ∙ take_min 8 commands in
    let g : 8 - k ≡ 8 - length commands = omega arith in
    same_part (threes_blanks 8 commands) (added (rw f at a) (rw g at b))

-- ---- a line
columns_split : (ws vs ns ms : List ℕ) → length ns ≡ length ws → joined (columns (ws ++ vs) (ns ++ ms)) ≡ joined (columns ws ns) ++ joined (columns vs ms)
unfolding columns joined
columns_split [] vs [] ms e = refl
columns_split [] vs (n ∷ ns) ms e = absurd (omega arith)
columns_split (w ∷ ws) vs [] ms e = absurd (omega arith)
columns_split (w ∷ ws) vs (n ∷ ns) ms e = rw (columns_split ws vs ns ms (omega arith), append_assoc (right_aligned w n))

module _ (leg upper lower item count : ℕ) {s t₁ t₂ t₃ t₄ t₅ : Text} where
  pub numbers_put : Adds s (right_aligned 3 leg) t₁ → Adds t₁ (right_aligned 3 upper) t₂ → Adds t₂ (right_aligned 3 lower) t₃
      → Adds t₃ (right_aligned 4 item) t₄ → Adds t₄ (right_aligned 3 count) t₅
      → Adds s (joined (columns (take 5 widths) (leg ∷ upper ∷ lower ∷ item ∷ count ∷ []))) t₅
  unfolding columns joined
  numbers_put u₁ u₂ u₃ u₄ u₅ = rw append-nil (added u₁ (added u₂ (added u₃ (added u₄ u₅))))

line_put : (k : ℕ) (l : Leg) (commands : List ℕ) {s t u v : Text}
    → Adds s (joined (columns (take 5 widths) (k ∷ l.upper ∷ l.lower ∷ l.number ∷ length commands ∷ []))) t
    → Adds t (joined (columns (drop 5 widths) commands)) u → Adds u (newline ∷ []) v → Adds s (line_of k l commands) v
unfolding line_of
line_put k l commands a b c =
    rw (columns_split (take 5 widths) (drop 5 widths) (k ∷ l.upper ∷ l.lower ∷ l.number ∷ length commands ∷ []) commands refl)
    (added (added a b) c)

-- the line of leg i in bytes, by the numbers that were read
module _ (reverse : ℕ → List ℕ) (legs : List ℕ) (i a upper lower count : ℕ) (ea : a ≡ get_or legs (3 * i) 0) (eu : upper ≡ get_or legs (3 * i + 1) 0)
    (el : lower ≡ get_or legs (3 * i + 2) 0) (ec : count ≡ length (reverse a)) where
  leg : Leg
  leg = record { number = a; upper = upper; lower = lower }

  leg-is : leg ≡ leg_read legs i
  unfolding leg
  leg-is =
      ap₂ (λ (x y : ℕ). record { number = x; upper = y; lower = lower }) ea eu
      ∙ ap (λ (x : ℕ). record { number = get_or legs (3 * i) 0; upper = get_or legs (3 * i + 1) 0; lower = x }) el

  pub line_read : {s t u v : Text} → Adds s (joined (columns (take 5 widths) ((i + 1) ∷ upper ∷ lower ∷ a ∷ count ∷ []))) t
      → Adds t (joined (columns (drop 5 widths) (reverse a))) u → Adds u (newline ∷ []) v
      → Adds s (line_of (i + 1) (leg_read legs i) (reverse (leg_read legs i).number)) v
  unfolding leg
  line_read {s} {t} {u} {v} b c d =
      subst (λ (l : Leg). Adds s (line_of (i + 1) l (reverse l.number)) v) leg-is (line_put (i + 1) leg (reverse a) (rw ec at b) c d)

-- ---- the lines
module _ (reverse : ℕ → List ℕ) (legs : List ℕ) where
  abbrev line_at : ℕ → ℕ → List ℕ
  line_at n j = line_of n (leg_read legs j) (reverse (leg_read legs j).number)

  -- k legs from number j on, of which the first has the number n on the page, and one leg more
  lines_from_more : (k n j : ℕ) → lines_from reverse n (legs_read legs k j) ++ line_at (n + k) (j + k) ≡ lines_from reverse n (legs_read legs (suc k) j)
  unfolding lines_from legs_read
  lines_from_more zero n j =
      let e : n + 0 ≡ n = omega arith in
      let f : j + 0 ≡ j = omega arith in
      rw (e, f) (sym (append-nil (line_at n j)))
  lines_from_more (suc k) n j =
      let e : n + suc k ≡ n + 1 + k = omega arith in
      let f : j + suc k ≡ j + 1 + k = omega arith in
      rw (e, f)
      (append_assoc (line_at n j) (lines_from reverse (n + 1) (legs_read legs k (j + 1))) (line_at (n + 1 + k) (j + 1 + k))
      ∙ ap (λ (t : List ℕ). line_at n j ++ t) (lines_from_more k (n + 1) (j + 1)))

  pub lines_more : (i : ℕ) → lines_from reverse 1 (legs_read legs i 0) ++ line_at (i + 1) i ≡ lines_from reverse 1 (legs_read legs (i + 1) 0)
  lines_more i =
      let e : 1 + i ≡ i + 1 = omega arith in
      let f : 0 + i ≡ i = omega arith in
      let g : suc i ≡ i + 1 = omega arith in
      rw (e, f, g) at (lines_from_more i 1 0)
