-- Kinds and their numbers: each undoes the other. Assumes nothing.
use mathlib.Core.Path.{◌≡◌, refl, sym, ap, ◌∙◌}
use Rattle.std.specs.Prelude.{Result, Ok, Err}
use Prim.Native.Nat.{ℕ}
use native.Mathlib.Omega.{arith}
use Rattle.base.specs.Tests.{pick}
use Rattle.base.specs.Compare.{same}
use Rattle.base.proofs.Compare.{same_on}
use Rattle.base.proofs.Picks.{pick_elim}
use Rattle.book.specs.declared.kind.Kind.{Kind}
use Rattle.book.specs.declared.kind.Kind.TheVariants.{DeviceRecord, WeightsRecord, MoveRecord, ItemRecord}
use Rattle.book.specs.declared.kind.UnknownKind.{UnknownKind}
use Rattle.book.specs.Book.{number}
use Rattle.book.specs.Parse.{kind_of}

pub of_number : (k : Kind) → kind_of (number k) ≡ Ok k
unfolding kind_of pick same
of_number DeviceRecord = refl
of_number MoveRecord = refl
of_number ItemRecord = refl
of_number WeightsRecord = refl

pub known : {n : ℕ} (k : Kind) → n ≡ number k → Ok k ≡ kind_of n
known k e = sym (ap kind_of e ∙ of_number k)

pub number_of : (n : ℕ) (k : Kind) → kind_of n ≡ Ok k → n ≡ number k
unfolding kind_of
number_of n k =
    let P : Result Kind UnknownKind → Type 0 = λ y. y ≡ Ok k → n ≡ number k in
    pick_elim P (same n (number DeviceRecord)) _ _ (λ t e. same_on _ _ t ∙ ap number (of DeviceRecord e))
    (λ _. pick_elim P (same n (number MoveRecord)) _ _ (λ t e. same_on _ _ t ∙ ap number (of MoveRecord e))
    (λ _. pick_elim P (same n (number ItemRecord)) _ _ (λ t e. same_on _ _ t ∙ ap number (of ItemRecord e))
    (λ _. pick_elim P (same n (number WeightsRecord)) _ _ (λ t e. same_on _ _ t ∙ ap number (of WeightsRecord e))
    (λ _ e. let z : ◌≡◌ {A = ℕ} 0 1 = cc in absurd (omega arith)))))
  where
    of : (j : Kind) → ◌≡◌ {A = Result Kind UnknownKind} (Ok j) (Ok k) → j ≡ k
    of j e = cc

-- a number is that of one kind at most, and of none where it is unknown
pub same_kind : (j k : Kind) → number j ≡ number k → j ≡ k
same_kind j k e = let f : Ok j ≡ Ok k = sym (of_number j) ∙ (ap kind_of e ∙ of_number k) in cc

pub no_kind : (n : ℕ) (k : Kind) {e : UnknownKind} → kind_of n ≡ Err e → n ≡ number k → ⊥
no_kind n k {e = x} u e =
    let f : Err x ≡ Ok k = sym u ∙ (ap kind_of e ∙ of_number k) in
    let z : ◌≡◌ {A = ℕ} 0 1 = cc in
    omega arith
