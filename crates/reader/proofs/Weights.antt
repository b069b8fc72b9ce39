-- The weights in a record's body, two bytes at a time, and a test of each. Assumes nothing.
use mathlib.Core.Path.{◌≡◌, refl, sym, ap, ◌∙◌}
use mathlib.Core.Bool.{Bool, true, false, ◌&&◌}
use mathlib.Core.List.{List, [], ◌∷◌, ◌++◌}
use Prim.Native.Nat.{ℕ}
use native.Mathlib.Omega.{arith}
use lib.ListN.{length, length-append}
use Rattle.std.specs.Iterator.{AlwaysYields}
use Rattle.std.specs.declared.slice.ChunksExact.{ChunksExact}
use Rattle.std.specs.List.{list_all}
use Rattle.std.specs.Slice.Iter.{chunks_exact_steps, chunks_exact_rest, chunks_exact_size}
use Rattle.std.proofs.lemmas.Iterator.{YieldsList}
use Rattle.base.specs.Tests.{pick}
use Rattle.base.proofs.Decides.{Decides}
use Rattle.octets.specs.Parts.{le, le_at}
use Rattle.book.specs.Parse.{weights_of}

-- ---- the pairs of bytes give the weights
pair : (a b : ℕ) (t xs ys : List ℕ) → a ∷ b ∷ t ≡ xs ++ ys → length xs ≡ 2 → (le_at 2 xs 0 ≡ le (a ∷ b ∷ [])) × (ys ≡ t)
pair a b t [] ys e l = absurd (omega (arith, l))
pair a b t (c ∷ []) ys e l = absurd (omega (arith, l))
pair a b t (c ∷ d ∷ []) ys e l = let p : a ≡ c = cc in let q : b ≡ d = cc in (rw (p, q), cc)
pair a b t (c ∷ d ∷ x ∷ xs) ys e l = absurd (omega (arith, l))

each : (row : List ℕ) (s : ChunksExact ℕ) → chunks_exact_size s ≡ 2 → chunks_exact_rest s ≡ row
    → AlwaysYields (chunks_exact_steps {A = ℕ}) (λ x. le_at 2 x.now 0) s (weights_of row)
unfolding weights_of
each [] s z e = λ x j p. omega (arith, z, p.1.1, ap length e, ap length p.1.0, length-append x.now (chunks_exact_rest j))
each (a ∷ []) s z e = λ x j p. omega (arith, z, p.1.1, ap length e, ap length p.1.0, length-append x.now (chunks_exact_rest j))
each (a ∷ b ∷ t) s z e = (
  (λ j p. omega (arith, z, ap length e, p.1.0)),
  λ x j p. let (v, r) = pair a b t x.now (chunks_exact_rest j) (sym e ∙ p.1.0) (p.1.1 ∙ z) in (v, each t j (p.0 ∙ z) r),
)

pub weights_come : (body : List ℕ) {s : ChunksExact ℕ} → chunks_exact_size s ≡ 2 → chunks_exact_rest s ≡ body
    → YieldsList (chunks_exact_steps {A = ℕ}) (λ x. le_at 2 x.now 0) s (weights_of body)
weights_come body {s} z e = record { runs = each body s z e }

-- ---- a test of each
pub all_decides : {f : ℕ → Bool} {every : List ℕ → Bool} → Decides f every → (ws : List ℕ) → list_all f ws ≡ every ws
unfolding pick
all_decides d [] = sym d.nil
all_decides {f} {every} d (w ∷ ws) = go (f w) (all_decides d ws) ∙ sym (d.cons w ws)
  where
    go : (t : Bool) → list_all f ws ≡ every ws → (t && list_all f ws) ≡ pick t (every ws) false
    go true e = e
    go false e = refl
