-- What 01 says of bytes, tables and slots leaves one answer only: one table, one book of the same bytes, one refusal, and never both.
-- Assumes nothing.
use mathlib.Core.Path.{◌≡◌, sym, ap, ◌∙◌}
use mathlib.Core.List.{List}
use Prim.Native.Nat.{ℕ, ◌*◌, ◌<◌}
use native.Mathlib.Decide.{dec_lt}
use native.Mathlib.Omega.{arith}
use lib.ListN.{length, get_or}
use lib.Seq.{ext_get_or}
use Rattle.base.specs.Lists.{Bytes}
use Rattle.base.proofs.Tables.{each-entry}
use Rattle.book.specs.Book.{Book, AllowedBook, bytes_of}
use Rattle.book.specs.Lent.{TableRead}
use Rattle.book.specs.Refusal.{Refusal}
use Rattle.book.specs.Parse.{parse}
use Rattle.book.specs.Parse.Parsed.{Ok, Refused}
use Rattle.book.proofs.Reading.{parse-bytes}
use Rattle.book.proofs.Refused.{refused_exactly}

-- ---- the table
-- an entry below n × m is that of some state and command
pub same-entry : (b : Book) → {old old' x y : List ℕ} → TableRead b old x → TableRead b old' y → (i : ℕ) → i < b.n * b.m
    → get_or x i 0 ≡ get_or y i 0
same-entry b {x = x} {y = y} p q =
    each-entry b.n b.m (λ j. get_or x j 0 ≡ get_or y j 0) (λ s c hs hc. p.entries s c hs hc ∙ sym (q.entries s c hs hc))

pub same-table : (b : Book) (old x y : List ℕ) → TableRead b old x → TableRead b old y → x ≡ y
same-table b old x y p q = ext_get_or 0 x y (p.size ∙ sym q.size) at
  where
    at : (i : ℕ) → i < length x → get_or x i 0 ≡ get_or y i 0
    at i l = go (dec_lt i (b.n * b.m))
      where
        go : Dec (i < b.n * b.m) → get_or x i 0 ≡ get_or y i 0
        go (yes h) = same-entry b p q i h
        go (no h) = p.kept i (omega arith) ∙ sym (q.kept i (omega arith))

-- ---- the book
pub one-book : (b b' : Book) → AllowedBook b → AllowedBook b' → bytes_of b ≡ bytes_of b' → b ≡ b'
one-book b b' a a' e =
    let u : Ok b ≡ Ok b' = sym (parse-bytes b a) ∙ (ap parse e ∙ parse-bytes b' a') in
    cc

-- ---- the refusal
module _ (s : List ℕ) (h : Bytes s) where
  pub one-refusal : {c p c' p' : ℕ} → Refusal s c p → Refusal s c' p' → (c ≡ c') × (p ≡ p')
  one-refusal {c} {p} {c'} {p'} f g =
      let e : Refused c p ≡ Refused c' p' = sym ((refused_exactly s c p h).1 f) ∙ (refused_exactly s c' p' h).1 g in
      (cc, cc)

  pub not-refused : {c p : ℕ} → Refusal s c p → (b : Book) → AllowedBook b → bytes_of b ≡ s → ⊥
  not-refused {c} {p} f b a e =
      let u : Refused c p ≡ Ok b = sym ((refused_exactly s c p h).1 f) ∙ (ap parse (sym e) ∙ parse-bytes b a) in
      let z : ◌≡◌ {A = ℕ} 0 1 = cc in
      omega arith
