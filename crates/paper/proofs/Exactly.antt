-- The contract gives what 02 says, of books, legs and their layout. Assumes nothing.
use mathlib.Core.Path.{◌≡◌, refl, sym, ap, ◌∙◌}
use mathlib.Core.List.{List, [], ◌∷◌}
use Prim.Native.Nat.{ℕ, ◌+◌, ◌<◌}
use native.Mathlib.Decide.{dec_lt}
use native.Mathlib.Omega.{arith}
use lib.ListN.{length}
use lib.Seq.{sets}
use Rattle.base.specs.Lists.{Each}
use Rattle.base.specs.Sizes.{LongEnough}
use Rattle.base.proofs.Lists.{stored}
use Rattle.base.proofs.Parts.{each_map}
use Rattle.reversal.specs.Reversal.{Item}
use Rattle.reversal.specs.Runs.{Run, last}
use Rattle.reversal.specs.Chains.{Leg, legs_of}
use Rattle.book.specs.Book.{Book, items_for}
use Rattle.assembly.specs.Asked.{Asked}
use Rattle.assembly.specs.Lent.{in_bytes, AllLent}
use Rattle.assembly.specs.LegsRead.{legs_read}
use Rattle.assembly.specs.Assembles.{Assembles}
use Rattle.assembly.specs.Demand.{Given, Planned}
use Rattle.assembly.proofs.Exactly.{even-bytes, length-legs, assembles}
use Rattle.assembly.proofs.LegsRead.{legs-read}
use Rattle.assembly.proofs.After.{none-counted, slots_hold}
use Rattle.assembly.proofs.Demand.{demand}
use Rattle.paper.specs.declared.Paged.{Paged}
use Rattle.paper.specs.Layout.{lines_from, reverse_of, page_of}
use Rattle.paper.specs.Pages.{Laid, page_sizes, Pages, short, refused, laid}
use Rattle.paper.specs.Contract.{reverse_in, page_in, PageAs}
use Rattle.paper.proofs.Legs.{numbers-known, chain-short}

-- ---- two ways to an item's commands that agree on legs give the same lines
lines_same : (f g : ℕ → List ℕ) (ls : List Leg) (k : ℕ) → Each (λ l. f l.number ≡ g l.number) ls → lines_from f k ls ≡ lines_from g k ls
unfolding lines_from
lines_same f g [] k h = refl
lines_same f g (l ∷ ls) k h = rw (h.0, lines_same f g ls (k + 1) h.1)

-- ---- the call
module _ {ask : Asked} {l : AllLent ℕ} {page : List ℕ} {r : Paged} {l' : AllLent ℕ} {page' : List ℕ} (c : PageAs ask l page r l' page') where
  module _ (long : LongEnough (page_sizes page)) where
    abbrev a : Assembles in_bytes ask l r.assembly l'
    a = assembles even-bytes (c.enough long)

    not-given : (r.assembly.code ≡ 0 → ⊥) → Pages ask l page r l' page'
    unfolding lines_from legs_read
    not-given n =
        let none : page_in l'.read.slots l'.room.legs r.assembly.legs ≡ [] = ap (page_in l'.read.slots l'.room.legs) (none-counted a n).1 in
        refused long a n (c.length_is long ∙ ap length none) (c.page_is long ∙ ap (sets page 0) none)

    module _ (z : r.assembly.code ≡ 0) (b : Book) (u : Run) (g : Given ask b u) (p : Planned in_bytes b u r.assembly l'.room) where
      abbrev ls : List Leg
      ls = legs_of (items_for b) (last u) p.items

      known : Each (λ l. reverse_in l'.read.slots l.number ≡ reverse_of (items_for b) l.number) ls
      known =
          each_map (λ l h. ap (λ (x : Item). x.reverse) (slots_hold a z b g.accepted l.number h)) ls
          (numbers-known b g.accepted.allowed u g.allowed p.items (last u) p.chain)

      page_same : page_in l'.read.slots l'.room.legs r.assembly.legs ≡ page_of (items_for b) ls
      page_same =
          ap (lines_from (reverse_in l'.read.slots) 1)
          (legs-read ls l'.room.legs r.assembly.legs (length-legs (items_for b) p.items (last u) ∙ sym p.legs_counted) p.legs_written)
          ∙ lines_same (reverse_in l'.read.slots) (reverse_of (items_for b)) ls 1 known

      given_page : Laid ask.book r l'.room.legs page page'
      given_page =
          record {
            the_book = b;
            accepted = g.accepted;
            legs = ls;
            legs_are = p.legs_written;
            written =
                stored (page_of (items_for b) ls) page page' (omega (arith, long.0, chain-short b g.accepted.allowed u g.allowed p.items p.chain))
                (c.page_is long ∙ ap (sets page 0) page_same);
            length_is = c.length_is long ∙ ap length page_same;
          }

    on_code : Dec (0 < r.assembly.code) → Pages ask l page r l' page'
    on_code (yes h) = not-given (λ z. omega arith)
    on_code (no h) =
        let z : r.assembly.code ≡ 0 = omega arith in
        let (b, (u, g, p)) = (demand even-bytes c.bytes a).plan_given z in
        laid long a z (given_page z b u g p)

  pub laid_out : Pages ask l page r l' page'
  laid_out = go (dec_lt (length page) 1312)
    where
      go : Dec (length page < 1312) → Pages ask l page r l' page'
      go (yes h) =
          let n : LongEnough (page_sizes page) → ⊥ = λ w. omega (arith, w.0) in
          let (e, k, q) = c.short n in short n e k q
      go (no h) = on_code (omega arith, tt) (dec_lt 0 r.assembly.code)
