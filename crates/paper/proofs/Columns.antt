-- Numbers in columns, taken apart again: the fields of a line, and the numbers in them. Assumes nothing.
use mathlib.Core.Path.{◌≡◌, refl, sym, ap, ap₂, ◌∙◌}
use mathlib.Core.Bool.{true}
use mathlib.Core.List.{List, [], ◌∷◌, ◌++◌, map}
use Prim.Native.Nat.{ℕ, zero, suc, ◌+◌, ◌-◌, ◌^◌, ◌<◌}
use native.Mathlib.Omega.{arith}
use borrow.Author.Tests.{le-leb}
use lib.ListN.{length, replicate, length-append, length-replicate}
use lib.Seq.{take_at, drop_at}
use Rattle.base.specs.Lists.{Each}
use Rattle.base.proofs.Parts.{each_append, each-replicate, each_map}
use Rattle.base.specs.Tests.{both}
use Rattle.base.specs.Compare.{at_most}
use Rattle.base.proofs.Picks.{yes, same_yes, same_no}
use Rattle.show.specs.Show.{newline, space, decimal, right_aligned}
use Rattle.paper.specs.Layout.{columns, joined}
use Rattle.paper.specs.Taken.{begun, lines_in, fields_in, unpadded, all_digits, value_from, value_of, number_in}
use Rattle.paper.proofs.Decimals.{Digit, InDecimal, in_decimal}

-- ---- one field
-- characters of a line
abbrev pub InLine : ℕ → Type 0
InLine c = c ≡ newline → ⊥

spaces_in : (k : ℕ) → Each InLine (replicate k space)
spaces_in k = each-replicate InLine k (λ e. omega arith)

digits_stay : (xs : List ℕ) → Each Digit xs → unpadded xs ≡ xs
unfolding unpadded
digits_stay [] h = refl
digits_stay (x ∷ xs) h = sym (same_no _ _ _ x space (λ e. omega (arith, h.0.0)) refl)

spaces_go : (k : ℕ) (xs : List ℕ) → unpadded (replicate k space ++ xs) ≡ unpadded xs
unfolding unpadded
spaces_go zero xs = refl
spaces_go (suc k) xs = sym (same_yes _ _ _ space space refl refl) ∙ spaces_go k xs

digits_on : (xs : List ℕ) → Each Digit xs → all_digits xs ≡ true
unfolding all_digits both at_most
digits_on [] h = refl
digits_on (x ∷ xs) h = rw (le-leb 48 x h.0.0, le-leb x 57 (omega (arith, h.0.1)), digits_on xs h.1)

one_value : (xs : List ℕ) → 0 < length xs → Each Digit xs → value_of xs ≡ value_from 0 xs ∷ []
one_value [] h d = absurd (omega arith)
one_value (x ∷ xs) h d = sym (yes _ _ _ _ (digits_on (x ∷ xs) d) refl)

blank_number : (k : ℕ) → number_in (replicate k space) ≡ []
unfolding unpadded
blank_number zero = refl
blank_number (suc k) = ap value_of (sym (same_yes _ _ _ space space refl refl)) ∙ blank_number k

-- a number that there is room for
module _ (w n : ℕ) (some : 0 < w) (fits : n < 10 ^ w) (small : n < 10 ^ 20) where
  abbrev told : InDecimal n (decimal n)
  told = in_decimal n small

  pub right-length : length (right_aligned w n) ≡ w
  unfolding right_aligned
  right-length =
      omega (
        arith,
        length-append (replicate (w - length (decimal n)) space) (decimal n),
        length-replicate {A = ℕ} (w - length (decimal n)) space,
        told.few w some fits,
      )

  right_in : Each InLine (right_aligned w n)
  unfolding right_aligned
  right_in =
      each_append InLine (replicate (w - length (decimal n)) space) (decimal n) (spaces_in (w - length (decimal n)))
      (each_map (λ x d e. omega (arith, d.0)) (decimal n) told.digits)

  pub right-number : number_in (right_aligned w n) ≡ n ∷ []
  unfolding right_aligned
  right-number =
      ap value_of (spaces_go (w - length (decimal n)) (decimal n) ∙ digits_stay (decimal n) told.digits)
      ∙ (one_value (decimal n) told.some told.digits ∙ ap (λ (x : ℕ). x ∷ []) told.value)

-- ---- fields in columns

-- numbers that there are columns for, and that the columns have room for
pub data Fit : List ℕ → List ℕ → Type 0 where
  blank : (ws : List ℕ) → Fit ws []
  number : {w n : ℕ} {ws ns : List ℕ} → 0 < w → n < 10 ^ w → n < 10 ^ 20 → Fit ws ns → Fit (w ∷ ws) (n ∷ ns)

abbrev pub total : List ℕ → ℕ
total [] = 0
total (w ∷ ws) = w + total ws

-- the text of the columns is as long as the widths together
pub columns-long : {ws ns : List ℕ} → Fit ws ns → length (joined (columns ws ns)) ≡ total ws
unfolding columns joined
columns-long (blank []) = refl
columns-long (blank (w ∷ ws)) =
    omega (arith, length-append (replicate w space) (joined (columns ws [])), length-replicate {A = ℕ} w space, columns-long (blank ws))
columns-long (number {w} {n} {ws} {ns} s f b rest) =
    omega (arith, length-append (right_aligned w n) (joined (columns ws ns)), right-length w n s f b, columns-long rest)

pub columns_in : {ws ns : List ℕ} → Fit ws ns → Each InLine (joined (columns ws ns))
unfolding columns joined
columns_in (blank []) = tt
columns_in (blank (w ∷ ws)) = each_append InLine (replicate w space) (joined (columns ws [])) (spaces_in w) (columns_in (blank ws))
columns_in (number {w} {n} {ws} {ns} s f b rest) =
    each_append InLine (right_aligned w n) (joined (columns ws ns)) (right_in w n s f b) (columns_in rest)

field-first : (w : ℕ) (ws f t : List ℕ) → length f ≡ w → fields_in (w ∷ ws) (f ++ t) ≡ f ∷ fields_in ws t
unfolding fields_in
field-first w ws f t l = ap₂ (λ (x : List ℕ) (y : List ℕ). x ∷ fields_in ws y) (take_at f t w l) (drop_at f t w l)

pub columns_fields : {ws ns : List ℕ} → Fit ws ns → fields_in ws (joined (columns ws ns)) ≡ columns ws ns
unfolding columns joined fields_in
columns_fields (blank []) = refl
columns_fields (blank (w ∷ ws)) =
    field-first w ws (replicate w space) (joined (columns ws [])) (length-replicate {A = ℕ} w space)
    ∙ ap (λ (x : List (List ℕ)). replicate w space ∷ x) (columns_fields (blank ws))
columns_fields (number {w} {n} {ws} {ns} s f b rest) =
    field-first w ws (right_aligned w n) (joined (columns ws ns)) (right-length w n s f b)
    ∙ ap (λ (x : List (List ℕ)). right_aligned w n ∷ x) (columns_fields rest)

pub columns-numbers : {ws ns : List ℕ} → Fit ws ns → joined (map number_in (columns ws ns)) ≡ ns
unfolding columns joined
columns-numbers (blank []) = refl
columns-numbers (blank (w ∷ ws)) = ap₂ (λ (x y : List ℕ). x ++ y) (blank_number w) (columns-numbers (blank ws))
columns-numbers (number {w} {n} {ws} {ns} s f b rest) = ap₂ (λ (x y : List ℕ). x ++ y) (right-number w n s f b) (columns-numbers rest)

-- ---- lines
-- a line is what stands before its newline
pub line_first : (xs t : List ℕ) → Each InLine xs → lines_in (xs ++ (newline ∷ t)) ≡ xs ∷ lines_in t
unfolding lines_in
line_first [] t h = sym (same_yes _ _ _ newline newline refl refl)
line_first (x ∷ xs) t h =
    sym (same_no _ _ _ x newline h.0 refl) ∙ ap (λ (y : List (List ℕ)). begun x y) (line_first xs t h.1)
