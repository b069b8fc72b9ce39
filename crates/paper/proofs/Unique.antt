-- What 02 says of the call leaves one answer only, and that is assembling's. Assumes nothing.
use mathlib.Core.Path.{◌≡◌, sym, ap, ap₂, ◌∙◌, subst}
use mathlib.Core.List.{List}
use Prim.Native.Nat.{ℕ, ◌*◌}
use lib.ListN.{length, take}
use Rattle.base.specs.Lists.{Bytes, Written}
use Rattle.base.specs.Sizes.{LongEnough}
use Rattle.base.proofs.Lists.{same-written}
use Rattle.assembly.specs.Asked.{Asked}
use Rattle.assembly.specs.declared.Assembly.{Assembly}
use Rattle.assembly.specs.Lent.{in_bytes, AllLent}
use Rattle.assembly.specs.Assembles.{Assembles}
use Rattle.assembly.proofs.Unique.{assembles_unique}
use Rattle.paper.specs.declared.Paged.{Paged}
use Rattle.paper.specs.Pages.{Laid, page_sizes, Pages, short, refused, laid}
use Rattle.paper.proofs.Legs.{one-text}

same_paged : {r q : Paged} → r.assembly ≡ q.assembly → r.length ≡ q.length → r ≡ q
same_paged e f = ap₂ (λ (a : Assembly) (n : ℕ). record { assembly = a; length = n }) e f

same-laid : {book : List ℕ} {r q : Paged} {legs legs' page page' page'' : List ℕ} → r.assembly ≡ q.assembly → legs ≡ legs' → Laid book r legs page page'
    → Laid book q legs' page page'' → (r.length ≡ q.length) × (page' ≡ page'')
same-laid {book} {r} {q} {legs} {legs'} {page} {page'} e f d v =
    let n : take (3 * r.assembly.legs) legs ≡ take (3 * q.assembly.legs) legs'
    = ap₂ (λ (a : Assembly) (s : List ℕ). take (3 * a.legs) s) e f in
    let t = one-text d v.accepted v.legs (n ∙ v.legs_are) in
    (d.length_is ∙ ap length t ∙ sym v.length_is, same-written (subst (λ (x : List ℕ). Written x page page') t d.written) v.written)

module _ {ask : Asked} {l : AllLent ℕ} {page : List ℕ} (h : Bytes ask.book) {r : Paged} {l' : AllLent ℕ} {page' : List ℕ} where
  -- "The call takes and fills what assembling does", "It refuses as assembling does": where the page is long enough
  pub as_assembling : Pages ask l page r l' page' → LongEnough (page_sizes page) → {q : Assembly} {l'' : AllLent ℕ} → Assembles in_bytes ask l q l''
      → (r.assembly ≡ q) × (l' ≡ l'')
  as_assembling (short k e i j) long y = absurd (k long)
  as_assembling (refused k x n e j) long y = assembles_unique h x y
  as_assembling (laid k x z d) long y = assembles_unique h x y

  pub pages_unique : {q : Paged} {l'' : AllLent ℕ} {page'' : List ℕ} → Pages ask l page r l' page' → Pages ask l page q l'' page''
      → (r ≡ q) × (l' ≡ l'') × (page' ≡ page'')
  pages_unique (short k e i j) (short k' e' i' j') = (e ∙ sym e', i ∙ sym i', j ∙ sym j')
  pages_unique (short k e i j) (refused long y n e' j') = absurd (k long)
  pages_unique (short k e i j) (laid long y z d) = absurd (k long)
  pages_unique (refused long x n e j) (short k' e' i' j') = absurd (k' long)
  pages_unique (refused long x n e j) (refused long' y n' e' j') =
      let (a, i) = assembles_unique h x y in
      (same_paged a (e ∙ sym e'), i, j ∙ sym j')
  pages_unique (refused long x n e j) (laid long' y z d) = absurd (n (ap (λ (a : Assembly). a.code) (assembles_unique h x y).0 ∙ z))
  pages_unique (laid long x z d) (short k' e' i' j') = absurd (k' long)
  pages_unique (laid long x z d) (refused long' y n e j) = absurd (n (sym (ap (λ (a : Assembly). a.code) (assembles_unique h x y).0) ∙ z))
  pages_unique (laid long x z d) (laid long' y z' d') =
      let (a, i) = assembles_unique h x y in
      let (e, j) = same-laid a (ap (λ (b : AllLent ℕ). b.room.legs) i) d d' in
      (same_paged a e, i, j)
