-- The loops of the pass: one turn stores one record, and the rest is left. Assumes nothing.
use mathlib.Core.Path.{◌≡◌, refl}
use mathlib.Core.Bool.{Bool, true, false}
use mathlib.Core.List.{List, [], ◌∷◌, ◌++◌, map}
use Prim.Native.Nat.{ℕ, suc, ◌+◌, ◌*◌, ◌<◌}
use lib.Arith.{digits_div, digits_mod}
use lib.ListN.{get_or}
use Rattle.base.specs.Tests.{pick}
use Rattle.base.specs.Compare.{same}
use Rattle.base.proofs.Picks.{same_yes, same_no}
use Rattle.octets.proofs.Turns.{Turns}
use Rattle.octets.specs.Le.{bytes_le}
use Rattle.octets.specs.Parts.{piece}
use Rattle.book.specs.Book.{frame, framed, two_bytes, move_rec, item_rec}
use Rattle.book.specs.Slots.{item_at}
use Rattle.book.specs.Buffers.{move_at, moves_from, items_from}
use Rattle.writer.specs.Records.{move, entry_row, entry_bytes, moves_bytes, items_bytes}

-- ---- one entry
module _ (mask state command : ℕ) where
  pub row-none : mask ≡ 0 → [] ≡ entry_row mask state command
  unfolding entry_row
  row-none z = same_yes [] [] _ _ 0 z refl

  pub row-some : (mask ≡ 0 → ⊥) → frame (move_rec (move state command mask)) ≡ entry_row mask state command
  unfolding entry_row
  row-some z = same_no _ [] _ _ 0 z refl

-- counted by state and command it is the entry of the table
pub entry-is : (t : List ℕ) (m state command mask : ℕ) → command < m → mask ≡ get_or t (state * m + command) 0
    → entry_row mask state command ≡ entry_bytes t (state * m + command) m
unfolding entry_row entry_bytes move_at
entry-is t m state command mask h e = rw (e, digits_div state h, digits_mod state h)

-- ---- the rows of the pass
pub move_rows : (t : List ℕ) (m : ℕ) → Turns (λ i. entry_bytes t i m) (λ k i. moves_bytes k t i m)
unfolding moves_bytes moves_from entry_bytes pick
move_rows t m = record { none = λ i. refl; more = λ k i. go k i (same (get_or t i 0) 0) }
  where
    go : (k i : ℕ) (b : Bool) → framed (map move_rec (pick b (moves_from k t (suc i) m) (move_at t i m ∷ moves_from k t (suc i) m)))
        ≡ pick b [] (frame (move_rec (move_at t i m))) ++ framed (map move_rec (moves_from k t (suc i) m))
    go k i true = refl
    go k i false = refl

pub item_rows : (s : List ℕ) → Turns (λ i. frame (item_rec (item_at s i))) (λ k i. items_bytes k s i)
unfolding items_bytes items_from
item_rows s = record { none = λ i. refl; more = λ k i. refl }

-- ---- the weights, two bytes each
pub weight_rows : (w : List ℕ) → Turns (λ i. bytes_le 2 (get_or w i 0)) (λ k i. two_bytes (piece k w i))
unfolding two_bytes piece
weight_rows w = record { none = λ i. refl; more = λ k i. refl }
