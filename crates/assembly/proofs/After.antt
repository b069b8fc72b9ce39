-- What assembling leaves: no counts and no sum on a refusal; with code 0 the book's items in the slots. Assumes nothing.
use mathlib.Core.Path.{◌≡◌, refl, sym, ap, ◌∙◌, subst}
use mathlib.Core.List.{List}
use Prim.Native.Nat.{ℕ}
use native.Mathlib.Omega.{arith}
use Rattle.base.proofs.Lists.{same-written}
use Rattle.reversal.specs.Answers.{Answer, no-history, no_chain, done}
use Rattle.book.specs.Book.{Book, items_for}
use Rattle.book.specs.Slots.{item_at}
use Rattle.book.proofs.Slots.{slots_read, slot-holds}
use Rattle.book.proofs.Unique.{one-book}
use Rattle.checker.specs.Checks.{AcceptedBook}
use Rattle.assembly.specs.Asked.{Asked}
use Rattle.assembly.specs.declared.Assembly.{Assembly}
use Rattle.points.specs.Items.{ItemsOf}
use Rattle.assembly.specs.Lent.{LegForm, Room, AllLent}
use Rattle.assembly.specs.Assembles.{result_of, Left, Assembles, short, unaccepted, faulty, answered}

abbrev pub NoneCounted : Assembly → Type 0
NoneCounted r = (r.commands ≡ 0) × (r.legs ≡ 0) × (r.sum ≡ 0)

counts_of : {r x : Assembly} → r ≡ x → NoneCounted x → NoneCounted r
counts_of e (c, n, s) = (ap (λ (y : Assembly). y.commands) e ∙ c, ap (λ (y : Assembly). y.legs) e ∙ n, ap (λ (y : Assembly). y.sum) e ∙ s)

counts_at : {E : Type 0} {form : LegForm E} {room : Room E} {r : Assembly} {room' : Room E} {a x : Answer} → Left form a room r room' → a ≡ x
    → NoneCounted (result_of x) → NoneCounted r
counts_at w e n = counts_of (w.result_is ∙ ap result_of e) n

module _ {E : Type 0} {form : LegForm E} {ask : Asked} {l : AllLent E} {r : Assembly} {l' : AllLent E} where
  -- "Counts are 0 on refusals"; 02, of the sum: "0 on a refusal"
  pub none-counted : Assembles form ask l r l' → (r.code ≡ 0 → ⊥) → NoneCounted r
  none-counted (short a e k) z = counts_of e (refl, refl, refl)
  none-counted (unaccepted long x n e w) z = counts_of e (refl, refl, refl)
  none-counted (faulty long b k n e w) z = counts_of e (refl, refl, refl)
  none-counted (answered long b k u al ub an (no-history n q) w) z = counts_at w q (refl, refl, refl)
  none-counted (answered long b k u al ub an (no_chain p v n ns m q) w) z = counts_at w q (refl, refl, refl)
  none-counted (answered long b k u al ub an (done p v xs best ns m q) w) z =
      absurd (z (ap (λ (y : Assembly). y.code) w.result_is ∙ ap (λ (y : Answer). y.code) q))

  -- with code 0 the slots hold the book's items
  pub slots_hold : Assembles form ask l r l' → r.code ≡ 0 → (b : Book) → AcceptedBook ask.book b → ItemsOf (items_for b) (item_at l'.read.slots)
  slots_hold (short a e k) z b ok = absurd (omega (arith, z, ap (λ (y : Assembly). y.code) e))
  slots_hold (unaccepted long x n e w) z b ok = absurd (n (sym (ap (λ (y : Assembly). y.code) e) ∙ z))
  slots_hold (faulty long b' k n e w) z b ok = absurd (omega (arith, z, ap (λ (y : Assembly). y.code) e))
  slots_hold (answered long b' k u al ub an right w) z b ok =
      let f = k.filled in
      let same : b' ≡ b = one-book b' b f.allowed ok.allowed (f.bytes ∙ sym ok.bytes) in
      subst (λ (y : Book). ItemsOf y.items (item_at l'.read.slots)) same
      (λ a h.
      ap (λ (s : List ℕ). item_at s a) (same-written f.read.slots_read (slots_read b' l.read.slots f.allowed f.long.1.0))
      ∙ slot-holds b' l.read.slots f.allowed f.long.1.0 a h)
