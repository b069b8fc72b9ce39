-- The legs read from bytes that hold a list of legs are that list. Assumes nothing.
use mathlib.Core.Path.{◌≡◌, refl, sym, ap, ap₂, ◌∙◌, subst}
use mathlib.Core.List.{List, [], ◌∷◌, ◌++◌, append_assoc}
use Prim.Native.Nat.{ℕ, ◌+◌, ◌*◌}
use native.Mathlib.Omega.{arith}
use lib.ListN.{length, get_or, take, drop, length-append, take-append-drop}
use lib.Seq.{take_all, get_or-append-add}
use Rattle.reversal.specs.Chains.{Leg}
use Rattle.assembly.specs.Lent.{legs_bytes}
use Rattle.assembly.specs.LegsRead.{leg_read, legs_read}
use Rattle.assembly.proofs.Exactly.{even-bytes}

module _ (rest : List ℕ) where
  leg-read : (front : List ℕ) (i : ℕ) → length front ≡ 3 * i → (l : Leg) (more : List ℕ)
      → leg_read (front ++ (l.number ∷ l.upper ∷ l.lower ∷ more)) i ≡ l
  leg-read front i e l more =
      ap₂ (λ (x y : ℕ). record { number = x; upper = y; lower = get_or s (3 * i + 2) 0 }) (ap (λ (k : ℕ). get_or s k 0) (omega arith) ∙ at 0) (at 1)
      ∙ ap (λ (x : ℕ). record { number = l.number; upper = l.upper; lower = x }) (at 2)
    where
      s : List ℕ
      s = front ++ (l.number ∷ l.upper ∷ l.lower ∷ more)

      at : (k : ℕ) → get_or s (3 * i + k) 0 ≡ get_or (l.number ∷ l.upper ∷ l.lower ∷ more) k 0
      at k =
          subst (λ (x : ℕ). get_or s (x + k) 0 ≡ get_or (l.number ∷ l.upper ∷ l.lower ∷ more) k 0) e
          (get_or-append-add front (l.number ∷ l.upper ∷ l.lower ∷ more) k 0)

  legs_from : (ls : List Leg) (front : List ℕ) (i : ℕ) → length front ≡ 3 * i → legs_read (front ++ (legs_bytes ls ++ rest)) (length ls) i ≡ ls
  unfolding legs_read legs_bytes
  legs_from [] front i e = refl
  legs_from (l ∷ ls) front i e =
      ap₂ (λ (x : Leg) (xs : List Leg). x ∷ xs) (leg-read front i e l (legs_bytes ls ++ rest))
      (ap (λ (x : List ℕ). legs_read x (length ls) (i + 1)) (sym (append_assoc front three (legs_bytes ls ++ rest)))
      ∙ legs_from ls (front ++ three) (i + 1) (omega (arith, length-append front three, e)))
    where
      three : List ℕ
      three = l.number ∷ l.upper ∷ l.lower ∷ []

-- in a row that begins with them
pub legs-read : (ls : List Leg) (s : List ℕ) (n : ℕ) → length ls ≡ n → take (3 * n) s ≡ legs_bytes ls → legs_read s n 0 ≡ ls
unfolding legs_read
legs-read ls s n c e =
    ap₂ (λ (x : List ℕ) (k : ℕ). legs_read x k 0) (sym (take-append-drop (3 * n) s) ∙ ap (λ (x : List ℕ). x ++ drop (3 * n) s) e) (sym c)
    ∙ legs_from (drop (3 * n) s) ls [] 0 refl

-- so no other legs have their bytes
pub one-legs : (ls ms : List Leg) → legs_bytes ls ≡ legs_bytes ms → ls ≡ ms
one-legs ls ms e =
    let counted : length ls ≡ length ms = omega (arith, even-bytes ls, even-bytes ms, ap length e) in
    sym (legs-read ls (legs_bytes ls) (length ls) refl (take_all (3 * length ls) (legs_bytes ls) (omega (arith, even-bytes ls))))
    ∙ legs-read ms (legs_bytes ls) (length ls) (sym counted) (take_all (3 * length ls) (legs_bytes ls) (omega (arith, even-bytes ls)) ∙ e)
