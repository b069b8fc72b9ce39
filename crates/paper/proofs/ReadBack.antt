-- A page's lines taken apart: the commands, the legs, the numbers. Assumes nothing.
use mathlib.Core.Path.{◌≡◌, refl, sym, ap, ap₂, ◌∙◌, subst}
use mathlib.Core.List.{List, [], ◌∷◌, ◌++◌, map, append_assoc}
use Prim.Native.Nat.{ℕ, zero, suc, ◌+◌, ◌*◌, ◌^◌, ◌≤◌, ◌<◌}
use native.Mathlib.Omega.{arith}
use lib.ListN.{length, get_or, drop, replicate, length-append}
use Rattle.base.specs.Lists.{Each}
use Rattle.reversal.specs.Chains.{Leg}
use Rattle.assembly.specs.Lent.{legs_bytes}
use Rattle.show.specs.Show.{newline, right_aligned}
use Rattle.paper.specs.Layout.{widths, columns, joined, line_of, lines_from}
use Rattle.paper.specs.Taken.{lines_in, number_in, on_line, leg_on, commands_on, down}
use Rattle.paper.specs.Pages.{up_from}
use Rattle.paper.proofs.Columns.{right-number, Fit, blank, number, columns-long, columns_in, columns_fields, columns-numbers, line_first}

-- what a line has room for: numbers of a byte, and at most eight commands
pub record LegFits (l : Leg) (commands : List ℕ) : Type 0 where
  pub number : l.number < 256
  pub upper : l.upper < 256
  pub lower : l.lower < 256
  pub few : length commands ≤ 8
  pub each : Each (λ c. c < 256) commands

module _ (k : ℕ) (l : Leg) (commands : List ℕ) (h : k < 256) (f : LegFits l commands) where
  abbrev numbers : List ℕ
  numbers = k ∷ l.upper ∷ l.lower ∷ l.number ∷ length commands ∷ commands

  abbrev text : List ℕ
  text = joined (columns widths numbers)

  fit-commands : (n : ℕ) (cs : List ℕ) → length cs ≤ n → Each (λ c. c < 256) cs → Fit (replicate n 3) cs
  fit-commands n [] s e = blank (replicate n 3)
  fit-commands zero (c ∷ cs) s e = absurd (omega arith)
  fit-commands (suc n) (c ∷ cs) s e =
      let b : c < 256 = e.0 in
      number {w = 3} {n = c} (omega arith) (omega arith) (omega arith) (fit-commands n cs (omega arith) e.1)

  fit : Fit widths numbers
  fit =
      let u : l.upper < 256 = f.upper in
      let v : l.lower < 256 = f.lower in
      let a : l.number < 256 = f.number in
      let c : length commands ≤ 8 = f.few in
      number {w = 3} {n = k} (omega arith) (omega arith) (omega arith)
      (number {w = 3} {n = l.upper} (omega arith) (omega arith) (omega arith)
      (number {w = 3} {n = l.lower} (omega arith) (omega arith) (omega arith)
      (number {w = 4} {n = l.number} (omega arith) (omega arith) (omega arith)
      (number {w = 3} {n = length commands} (omega arith) (omega arith) (omega arith) (fit-commands 8 commands c f.each)))))

  record LineBack : Type 0 where
    line : (t : List ℕ) → lines_in (line_of k l commands ++ t) ≡ text ∷ lines_in t
    wide : length text ≡ 40
    numbered : on_line 0 text ≡ k ∷ []
    leg : leg_on text ≡ l.number ∷ l.upper ∷ l.lower ∷ []
    counted : on_line 4 text ≡ length commands ∷ []
    taken : commands_on text ≡ commands

  field : (i : ℕ) → on_line i text ≡ number_in (get_or (columns widths numbers) i [])
  field i = ap (λ (fs : List (List ℕ)). number_in (get_or fs i [])) (columns_fields fit)

  read : (w n : ℕ) → 0 < w → n < 10 ^ w → n < 10 ^ 20 → (i : ℕ) → get_or (columns widths numbers) i [] ≡ right_aligned w n → on_line i text ≡ n ∷ []
  read w n s h b i e = field i ∙ (ap number_in e ∙ right-number w n s h b)

  line_back : LineBack
  unfolding columns line_of
  line_back =
      let u : l.upper < 256 = f.upper in
      let v : l.lower < 256 = f.lower in
      let a : l.number < 256 = f.number in
      let c : length commands ≤ 8 = f.few in
      record {
        line = λ t. ap lines_in (append_assoc text (newline ∷ []) t) ∙ line_first text t (columns_in fit);
        wide = columns-long fit;
        numbered = read 3 k (omega arith) (omega arith) (omega arith) 0 refl;
        leg =
            ap₂ (λ (x y : List ℕ). x ++ y) (read 4 l.number (omega arith) (omega arith) (omega arith) 3 refl)
            (ap₂ (λ (x y : List ℕ). x ++ y) (read 3 l.upper (omega arith) (omega arith) (omega arith) 1 refl)
            (read 3 l.lower (omega arith) (omega arith) (omega arith) 2 refl));
        counted = read 3 (length commands) (omega arith) (omega arith) (omega arith) 4 refl;
        taken =
            ap (λ (fs : List (List ℕ)). joined (map number_in (drop 5 fs))) (columns_fields fit) ∙ columns-numbers (fit-commands 8 commands c f.each);
      }

-- ---- line by line
module _ (reverse : ℕ → List ℕ) where
  abbrev pub AllFit : List Leg → Type 0
  AllFit ls = Each (λ l. LegFits l (reverse l.number)) ls

  -- the commands of legs, in their order
  abbrev pub commands_of : List Leg → List ℕ
  commands_of ls = joined (map (λ l. reverse l.number) ls)

  pub record PageBack (k : ℕ) (ls : List Leg) : Type 0 where
    pub commands : down commands_on (lines_in (lines_from reverse k ls)) ≡ commands_of ls
    pub legs : down leg_on (lines_in (lines_from reverse k ls)) ≡ legs_bytes ls
    pub numbered : down (on_line 0) (lines_in (lines_from reverse k ls)) ≡ up_from k (length ls)
    pub counted :
        down (on_line 4) (lines_in (lines_from reverse k ls)) ≡ map (λ line. length (commands_on line)) (lines_in (lines_from reverse k ls))
    pub wide : Each (λ line. length line ≡ 40) (lines_in (lines_from reverse k ls))
    pub long : length (lines_from reverse k ls) ≡ 41 * length ls

  -- one line more
  module _ (l : Leg) (ls : List Leg) (k : ℕ) (h : k < 256) (f : LegFits l (reverse l.number)) (rest : PageBack (k + 1) ls) where
    abbrev here : LineBack k l (reverse l.number) h f
    here = line_back k l (reverse l.number) h f

    abbrev more : List ℕ
    more = lines_from reverse (k + 1) ls

    first : lines_in (lines_from reverse k (l ∷ ls)) ≡ text k l (reverse l.number) h f ∷ lines_in more
    unfolding lines_from
    first = here.line more

    page_more : PageBack k (l ∷ ls)
    unfolding lines_from line_of joined legs_bytes up_from
    page_more =
        record {
          commands = ap (down commands_on) first ∙ ap₂ (λ (x y : List ℕ). x ++ y) here.taken rest.commands;
          legs = ap (down leg_on) first ∙ ap₂ (λ (x y : List ℕ). x ++ y) here.leg rest.legs;
          numbered = ap (down (on_line 0)) first ∙ ap₂ (λ (x y : List ℕ). x ++ y) here.numbered rest.numbered;
          counted =
              ap (down (on_line 4)) first ∙ ap₂ (λ (x y : List ℕ). x ++ y) (here.counted ∙ ap (λ (cs : List ℕ). length cs ∷ []) (sym here.taken)) rest.counted
              ∙ sym (ap (map (λ line. length (commands_on line))) first);
          wide = subst (λ (lines : List (List ℕ)). Each (λ line. length line ≡ 40) lines) (sym first) (here.wide, rest.wide);
          long =
              omega (
                arith,
                length-append (line_of k l (reverse l.number)) more,
                length-append (text k l (reverse l.number) h f) (newline ∷ []),
                here.wide,
                rest.long,
              );
        }

  pub page_back : (ls : List Leg) (k : ℕ) → k + length ls ≤ 256 → AllFit ls → PageBack k ls
  unfolding lines_in lines_from joined legs_bytes up_from
  page_back [] k h f = record { commands = refl; legs = refl; numbered = refl; counted = refl; wide = tt; long = refl }
  page_back (l ∷ ls) k h f = page_more l ls k (omega arith) f.0 (page_back ls (k + 1) (omega arith) f.1)
