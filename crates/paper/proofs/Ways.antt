-- The two ways of the call. Assumes nothing.
use mathlib.Core.Path.{◌≡◌, refl, ap}
use mathlib.Core.List.{List}
use Prim.Native.Nat.{ℕ, ◌≤◌, ◌<◌}
use native.Mathlib.Omega.{arith}
use lib.ListN.{length}
use Rattle.base.specs.Lists.{Bytes}
use Rattle.assembly.specs.Asked.{Asked}
use Rattle.assembly.specs.declared.Assembly.{Assembly}
use Rattle.assembly.specs.Lent.{in_bytes, AllLent}
use Rattle.assembly.specs.Assembles.{refusal}
use Rattle.assembly.specs.Contract.{AssembleAs}
use Rattle.show.specs.Written.{Written}
use Rattle.show.proofs.Texts.{at_start_lem}
use Rattle.paper.specs.Contract.{page_in, PageAs}

module _ {ask : Asked} {l : AllLent ℕ} {page : List ℕ} {a : Assembly} where
  pub page_short : Bytes ask.book → length page < 1312 → a ≡ refusal 1 0 → PageAs ask l page (record { assembly = a; length = 0 }) l page
  page_short h k e =
      record {
        bytes = h;
        short = λ _. (ap (λ (x : Assembly). record { assembly = x; length = 0 }) e, refl, refl);
        enough = λ m. absurd (omega (arith, m.0));
        page_is = λ m. absurd (omega (arith, m.0));
        length_is = λ m. absurd (omega (arith, m.0));
      }

  pub page_long : {l' : AllLent ℕ} {page' : List ℕ} {n : ℕ} → 1312 ≤ length page → AssembleAs in_bytes ask l a l'
      → Written page 0 (page_in l'.read.slots l'.room.legs a.legs) page' n → PageAs ask l page (record { assembly = a; length = n }) l' page'
  page_long k c w =
      record {
        bytes = c.bytes;
        short = λ m. absurd (m (k, tt));
        enough = λ _. c;
        page_is = λ _. (at_start_lem w).0;
        length_is = λ _. (at_start_lem w).1;
      }
