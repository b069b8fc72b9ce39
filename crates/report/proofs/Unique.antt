-- 01 leaves no other text: what assembling answers for the bytes that are judged is determined, and so are its lines. Assumes nothing.
use mathlib.Core.Path.{◌≡◌, sym, ap₂, ◌∙◌}
use mathlib.Core.List.{List}
use Prim.Native.Nat.{ℕ}
use lib.ListN.{take}
use Rattle.base.specs.Lists.{Bytes}
use Rattle.assembly.specs.declared.Assembly.{Assembly}
use Rattle.assembly.specs.Lent.{AllLent}
use Rattle.show.specs.Show.{lines_of}
use Rattle.assembly.proofs.Unique.{assembles_unique}
use Rattle.report.specs.Prints.{Prints}

pub prints_unique : {book run x y : List ℕ} → Bytes (take 31179 book) → Prints book run x → Prints book run y → x ≡ y
prints_unique bytes p q =
    let (result, left) = assembles_unique bytes p.assembled q.assembled in
    p.lines
    ∙ (ap₂ (λ (r : Assembly) (l : AllLent ℕ). lines_of r.code r.place r.commands r.legs (take r.commands l.room.plan)) result left
    ∙ sym q.lines)
