-- One text after another, and what is left of a line. Assumes nothing.
use mathlib.Core.Path.{◌≡◌, refl, sym, ap, ap₂, ◌∙◌, subst}
use mathlib.Core.List.{List, [], ◌∷◌, ◌++◌, append-nil, append_assoc}
use Prim.Native.Nat.{ℕ, zero, suc, ◌+◌, ◌-◌, ◌%◌, ◌^◌, ◌≤◌, ◌<◌, min}
use native.Mathlib.Nat.{zero-add, sub-zero, suc-min-suc}
use native.Mathlib.Omega.{arith}
use lib.ListN.{length, take, replicate, length-append, length-take, length-replicate}
use lib.Seq.{sets, take_all, take-nil, take-take}
use Rattle.base.proofs.Picks.{same_yes, same_no}
use Rattle.octets.specs.Le.{bytes_le}
use Rattle.octets.specs.Parts.{piece}
use Rattle.octets.proofs.Put.{sets_past, sets_append, piece-take}
use Rattle.io.specs.Counts.{IsPrefixLen}
use Rattle.io.specs.Digits.{last_digits, IsDigitCount}
use Rattle.show.specs.declared.Text.{Text}
use Rattle.show.specs.Show.{newline, space, decimal, right_aligned, field, line, lines_of, planned}
use Rattle.show.specs.Written.{Written}
use Rattle.show.specs.Adds.{Adds, Numbers, none, one_more}
use Rattle.show.proofs.Decimal.{decimal-is}

-- a text, and another at its end
pub then : {old : List ℕ} {at : ℕ} {xs mid : List ℕ} {a : ℕ} {ys new : List ℕ} {next : ℕ} → Written old at xs mid a → Written mid a ys new next
    → Written old at (xs ++ ys) new next
then {old} {at} {xs} {mid} {a} {ys} u v =
    record {
      row = v.row ∙ ap (λ (l : List ℕ). sets l a ys) u.row ∙ sets_append old at a xs ys (sym u.end);
      end = omega (arith, length-append xs ys, u.end, v.end);
    }

-- one byte
pub one_put : (old : List ℕ) (at b : ℕ) (new : List ℕ) → b < 256 → new ≡ sets old at (bytes_le 1 b) → Written old at (b ∷ []) new (at + 1)
unfolding bytes_le
one_put old at b new h e = let m : b % 256 ≡ b = omega arith in record { row = rw m at e; end = refl }

pub added : {s : Text} {xs : List ℕ} {t : Text} {ys : List ℕ} {u : Text} → Adds s xs t → Adds t ys u → Adds s (xs ++ ys) u
added a b = record { same_row = b.same_row ∙ a.same_row; written = then a.written b.written }

pub same_part : {s : Text} {xs ys : List ℕ} {t : Text} → xs ≡ ys → Adds s xs t → Adds s ys t
same_part {s} {t = t} e a = subst (λ (zs : List ℕ). Adds s zs t) e a

-- nothing
pub unchanged : (s : Text) → Adds s [] s
unchanged s = record { same_row = refl; written = record { row = refl; end = omega arith } }

-- ---- a number: spaces, and the digits that `io::decimal` made, copied behind them
module _ (text : List ℕ) (k n : ℕ) (c : IsPrefixLen k text) (f : IsDigitCount 10 1 n k) (d : take k text ≡ last_digits 10 k n) (h : n < 2 ^ 64) where
  made : take k text ≡ decimal n
  made = d ∙ decimal-is k n f h

  made-long : k ≡ length (decimal n)
  made-long = c.1 ∙ ap length made

  module _ (w pad : ℕ) (e : pad ≡ w - k) where
    spaces_are : replicate {A = ℕ} pad space ≡ replicate (w - length (decimal n)) space
    spaces_are = ap (λ (x : ℕ). replicate x space) (e ∙ ap (λ (x : ℕ). w - x) made-long)

    pub right-long : pad + k ≡ length (right_aligned w n)
    unfolding right_aligned
    right-long =
        omega (
          arith,
          made-long,
          length-append (replicate (w - length (decimal n)) space) (decimal n),
          length-replicate {A = ℕ} (w - length (decimal n)) space,
        )

    module _ (old : List ℕ) (at : ℕ) (mid : List ℕ) (q : mid ≡ sets old at (replicate pad space)) where
      -- what is put behind the spaces puts the whole
      behind : (new : List ℕ) → new ≡ sets mid (at + pad) (decimal n) → new ≡ sets old at (replicate (w - length (decimal n)) space ++ decimal n)
      behind new g =
          g ∙ ap (λ (l : List ℕ). sets l (at + pad) (decimal n)) q
          ∙ sets_append old at (at + pad) (replicate pad space) (decimal n) (omega (arith, length-replicate {A = ℕ} pad space))
          ∙ ap (λ (l : List ℕ). sets old at (l ++ decimal n)) spaces_are

      pub right_put : (new : List ℕ) → new ≡ sets mid (at + pad) (piece k (take k text) 0)
          → new ≡ sets old at (replicate (w - length (decimal n)) space ++ decimal n)
      right_put new g =
          let p : piece k (take k text) 0 ≡ decimal n = piece-take k (take k text) 0 (omega arith) ∙ take_all k (take k text) (omega arith) ∙ made in
          behind new (rw p at g)

      -- past the end there is nothing to put
      pub right-past : length mid ≤ at + pad → mid ≡ sets old at (replicate (w - length (decimal n)) space ++ decimal n)
      right-past l = behind mid (sym (sets_past mid (at + pad) (decimal n) l))

-- a number, and one byte
pub field_put : (old mid new : List ℕ) (at k n b : ℕ) → b < 256 → mid ≡ sets old at (decimal n) → k ≡ length (decimal n)
    → new ≡ sets mid (at + k) (bytes_le 1 b) → Written old at (field n b) new (at + k + 1)
field_put old mid new at k n b l e c g =
    let w : Written old at (decimal n) mid (at + k) = record { row = e; end = ap (λ (x : ℕ). at + x) c } in
    then w (one_put mid (at + k) b new l g)

-- what puts the rest at `next` puts the whole text at `at`
abbrev pub Completes : List ℕ → ℕ → List ℕ → List ℕ → ℕ → List ℕ → Type 0
Completes old at text out next rest = (new : List ℕ) (end : ℕ) → Written out next rest new end → Written old at text new end

pub plan-start : (n : ℕ) (plan : List ℕ) (old : List ℕ) (at : ℕ) → Completes old at (line (piece n plan 0)) old at (line (piece (n - 0) plan 0))
plan-start n plan old at new end w = rw sub-zero at w

-- a number alone
pub unpadded_is : (n : ℕ) → right_aligned 0 n ≡ decimal n
unfolding right_aligned
unpadded_is n = let e : 0 - length (decimal n) ≡ 0 = omega arith in rw e

-- ---- the numbers of a line

-- numbers, a space after each
abbrev pub spaced : List ℕ → List ℕ
spaced [] = []
spaced (n ∷ ns) = field n space ++ spaced ns

pub spaced_more : (ns : List ℕ) (n : ℕ) → spaced ns ++ field n space ≡ spaced (ns ++ (n ∷ []))
spaced_more [] n = sym (append-nil (field n space))
spaced_more (m ∷ ns) n = append_assoc (field m space) (spaced ns) (field n space) ∙ ap (λ (t : List ℕ). field m space ++ t) (spaced_more ns n)

-- a line is its numbers but the last, and the last
pub line_is : (ns : List ℕ) (n : ℕ) → spaced ns ++ field n newline ≡ line (ns ++ (n ∷ []))
unfolding line
line_is [] n = refl
line_is (m ∷ []) n = rw append-nil
line_is (m ∷ k ∷ ns) n = append_assoc (field m space) (spaced (k ∷ ns)) (field n newline) ∙ ap (λ (t : List ℕ). field m space ++ t) (line_is (k ∷ ns) n)

module _ {X : Type 0} (converts : X → ℕ → Type 0) where
  pub none_of : (xs : List X) → length xs ≡ 0 → Numbers converts xs []
  none_of [] h = none
  none_of (x ∷ xs) h = absurd (omega arith)

  pub numbers_more : {xs : List X} {ns : List ℕ} {x : X} {n : ℕ} → Numbers converts xs ns → converts x n
      → Numbers converts (xs ++ (x ∷ [])) (ns ++ (n ∷ []))
  numbers_more none h = one_more h none
  numbers_more (one_more g ns) h = one_more g (numbers_more ns h)

-- where the conversion gives the number itself
pub numbers_are : {xs ns : List ℕ} → Numbers (λ x n. n ≡ x) xs ns → ns ≡ xs
numbers_are none = refl
numbers_are (one_more e ns) = ap₂ (λ (x : ℕ) (xs : List ℕ). x ∷ xs) e (numbers_are ns)

-- the first of a list are as many as there are
pub take_min : (k : ℕ) (l : List ℕ) → take (min k (length l)) l ≡ take k l
take_min zero l = let e : min 0 (length l) ≡ 0 = omega arith in rw e
take_min (suc k) [] = take-nil (min (suc k) 0)
take_min (suc k) (x ∷ l) = rw suc-min-suc (ap (λ (t : List ℕ). x ∷ t) (take_min k l))

planned-is : (commands : ℕ) (plan : List ℕ) → planned commands plan ≡ take (min commands (min 256 (length plan))) plan
planned-is commands plan =
    let n = min commands (min 256 (length plan)) in
    let e : min commands (length (take 256 plan)) ≡ n = rw length-take in
    sym (take_min commands (take 256 plan)) ∙ rw e (take-take n 256 plan (omega arith))

-- ---- both lines
module _ (plan : List ℕ) {s : Text} {code place commands legs : ℕ} {ns : List ℕ} {t : Text} (a : Adds s (line ns) t) (e : ns ≡ code ∷ place ∷ commands ∷ legs ∷ []) where
  pub lines-refused : (code ≡ 0 → ⊥) → Adds s (lines_of code place commands legs (planned commands plan)) t
  unfolding lines_of
  lines-refused h = rw (← same_no _ (line (planned commands plan)) [] code 0 h refl, append-nil, ← e) a

  pub lines-done : (n k : ℕ) {ms : List ℕ} {u : Text} → code ≡ 0 → k ≡ min (length plan) 256 → n ≡ min commands k → Adds t (line ms) u → ms ≡ take n plan
      → Adds s (lines_of code place commands legs (planned commands plan)) u
  unfolding lines_of
  lines-done n k {ms} h f g b q =
      let m : n ≡ min commands (min 256 (length plan)) = omega arith in
      let p : planned commands plan ≡ ms = planned-is commands plan ∙ sym (q ∙ ap (λ (x : ℕ). take x plan) m) in
      rw (← same_yes _ (line (planned commands plan)) [] code 0 h refl, p, ← e) (added a b)

-- a text at the start of a row
pub at_start_lem : {old text new : List ℕ} {next : ℕ} → Written old 0 text new next → (new ≡ sets old 0 text) × (next ≡ length text)
at_start_lem w = (w.row, w.end ∙ zero-add _)

-- a whole text: what the row holds at the end, and the length
module _ {out text : List ℕ} {s t : Text} (a : Adds s text t) (row : s.out.now ≡ out) (empty : s.end ≡ 0) where
  pub whole : {final : List ℕ} → final ≡ t.out.now → Written out 0 text final t.end
  whole f = rw f (rw (row, empty) at a.written)

  pub whole_row : {final : List ℕ} → final ≡ t.out.now → final ≡ sets out 0 text
  whole_row f = (at_start_lem (whole f)).0

  pub whole_length : t.end ≡ length text
  whole_length = (at_start_lem (whole refl)).1
