-- What the call answers and leaves in the lent buffers, computed: the page by the slots and the legs at exit. proofs/Exactly ties it to specs/Pages.
-- Assumes nothing: these are definitions.
use Rattle.std.specs.Prelude.{◌≡◌, List, ℕ, length}
use Rattle.std.proofs.lemmas.List.Edits.{sets}
use Rattle.base.specs.Lists.{Bytes}
use Rattle.base.specs.Sizes.{LongEnough}
use Rattle.book.specs.Slots.{item_at}
use Rattle.assembly.specs.Asked.{Asked}
use Rattle.assembly.specs.Lent.{in_bytes, AllLent}
use Rattle.assembly.specs.LegsRead.{legs_read}
use Rattle.assembly.specs.Assembles.{refusal}
use Rattle.assembly.specs.Contract.{AssembleAs}
use Rattle.paper.specs.declared.Paged.{Paged}
use Rattle.paper.specs.Layout.{lines_from}
use Rattle.paper.specs.Pages.{page_sizes}

-- the reverse commands of the item in slot a
abbrev pub reverse_in : List ℕ → ℕ → List ℕ
reverse_in slots a = (item_at slots a).reverse

-- the lines of so many lent legs
abbrev pub page_in : List ℕ → List ℕ → ℕ → List ℕ
page_in slots legs count = lines_from (reverse_in slots) 1 (legs_read legs count 0)

-- the contract of `lay_out`: buffers l and page at entry; result r and buffers l' and page' at exit
pub record PageAs (ask : Asked) (l : AllLent ℕ) (page : List ℕ) (r : Paged) (l' : AllLent ℕ) (page' : List ℕ) : Type 0 where
  pub bytes : Bytes ask.book
  pub short : (LongEnough (page_sizes page) → ⊥) → (r ≡ record { assembly = refusal 1 0; length = 0 }) × (l' ≡ l) × (page' ≡ page)
  pub enough : LongEnough (page_sizes page) → AssembleAs in_bytes ask l r.assembly l'
  pub page_is : LongEnough (page_sizes page) → page' ≡ sets page 0 (page_in l'.read.slots l'.room.legs r.assembly.legs)
  pub length_is : LongEnough (page_sizes page) → r.length ≡ length (page_in l'.read.slots l'.room.legs r.assembly.legs)
