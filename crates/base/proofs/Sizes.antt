-- A lent buffer is shorter than stated exactly where the test says so. Assumes nothing.
use mathlib.Core.Path.{◌≡◌, refl, sym, ◌∙◌}
use mathlib.Core.Bool.{Bool, true, false, false≢true}
use mathlib.Core.List.{List, [], ◌∷◌, ◌++◌}
use Prim.Native.Nat.{◌≤◌}
use Rattle.base.specs.Tests.{pick}
use Rattle.base.specs.Compare.{less}
use Rattle.base.specs.Sizes.{Sized, LongEnough}
use Rattle.base.specs.Shorter.{any_short}
use Rattle.base.proofs.Compare.{less_off}
use Rattle.base.proofs.Picks.{tests}
use Rattle.base.proofs.Parts.{each_right}

-- ---- the test, buffer by buffer
pub short-past : (s : Sized) (ss : List Sized) → s.stated ≤ s.held → any_short (s ∷ ss) ≡ any_short ss
unfolding any_short
short-past s ss h = sym (search tests)

pub none-short : any_short [] ≡ false
unfolding any_short
none-short = refl

pub long_after : (ss ts : List Sized) → LongEnough (ss ++ ts) → LongEnough ts
long_after ss ts h = each_right (λ s. s.stated ≤ s.held) ss ts h

-- ---- both ways
pub long_off : (ss : List Sized) → LongEnough ss → any_short ss ≡ false
long_off [] h = none-short
long_off (s ∷ ss) h = short-past s ss h.0 ∙ long_off ss h.1

pub off_long : (ss : List Sized) → any_short ss ≡ false → LongEnough ss
unfolding any_short pick
off_long [] e = tt
off_long (s ∷ ss) e = go (less s.held s.stated) refl e (off_long ss)
  where
    go : (t : Bool) → less s.held s.stated ≡ t → pick t true (any_short ss) ≡ false → (any_short ss ≡ false → LongEnough ss)
        → (s.stated ≤ s.held) × LongEnough ss
    go true l e ih = absurd (false≢true (sym e))
    go false l e ih = (less_off s.held s.stated l, ih e)

pub on_short : (ss : List Sized) → any_short ss ≡ true → LongEnough ss → ⊥
on_short ss e h = false≢true (sym (long_off ss h) ∙ e)

pub short_on : (ss : List Sized) → (LongEnough ss → ⊥) → any_short ss ≡ true
short_on ss f = go (any_short ss) refl
  where
    go : (t : Bool) → any_short ss ≡ t → t ≡ true
    go true e = refl
    go false e = absurd (f (off_long ss e))

pub long_or_not : (ss : List Sized) → Dec (LongEnough ss)
long_or_not ss = go (any_short ss) refl
  where
    go : (t : Bool) → any_short ss ≡ t → Dec (LongEnough ss)
    go true e = no (on_short ss e)
    go false e = yes (off_long ss e)
