-- The lent buffers after reading, as the code fills them, are what 01 and 02 say of them, and nothing else is. Assumes nothing.
use mathlib.Core.Path.{◌≡◌, ap₂}
use mathlib.Core.List.{List}
use Prim.Native.Nat.{ℕ}
use Rattle.base.specs.Sizes.{LongEnough}
use Rattle.base.proofs.Lists.{same-written}
use Rattle.book.specs.Book.{Book, AllowedBook}
use Rattle.book.specs.Lent.{Lent, lent, sizes, LentRead}
use Rattle.book.specs.Buffers.{lent_of}
use Rattle.book.proofs.Table.{table_read}
use Rattle.book.proofs.Slots.{slots_read}
use Rattle.book.proofs.Weights.{weights_read}
use Rattle.book.proofs.Unique.{same-table}

pub lent-read : (b : Book) (l : Lent) → AllowedBook b → LongEnough (sizes l) → LentRead b l (lent_of b l)
lent-read b l a long =
    record {
      table_read = table_read b l.table a long.0;
      slots_read = slots_read b l.slots a long.1.0;
      weights_read = weights_read b l.weights a long.1.1.0;
    }

-- buffers that are the same one by one
pub same-buffers : {t t' s s' w w' : List ℕ} → t ≡ t' → s ≡ s' → w ≡ w' → lent t s w ≡ lent t' s' w'
same-buffers p q r = ap₂ (λ (f : List ℕ → Lent) (w : List ℕ). f w) (ap₂ (λ (t s : List ℕ). lent t s) p q) r

pub same-lent : (b : Book) (l : Lent) → AllowedBook b → (x y : Lent) → LentRead b l x → LentRead b l y → x ≡ y
same-lent b l a x y p q =
    same-buffers (same-table b l.table x.table y.table p.table_read q.table_read) (same-written p.slots_read q.slots_read)
    (same-written p.weights_read q.weights_read)
