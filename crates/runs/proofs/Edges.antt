-- The worked runs at both sides of the limits, by the tests of their bytes. Assumes nothing.
use mathlib.Core.Path.{◌≡◌, refl}
use mathlib.Core.Bool.{true, false}
use mathlib.Core.List.{List}
use Prim.Native.Nat.{ℕ, ◌≤◌}
use lib.Dec.{lit≤}
use Rattle.base.specs.Tests.{pick, both}
use Rattle.base.specs.Bounded.{all}
use Rattle.base.specs.Compare.{less, differ}
use Rattle.base.specs.Masks.{clear_from}
use Rattle.reversal.specs.Device.{Device}
use Rattle.reversal.specs.Twelve.{Q}
use Rattle.reversal.specs.Slips.{P}
use Rattle.octets.specs.Le.{bytes_le}
use Rattle.octets.specs.Parts.{piece}
use Rattle.book.specs.Book.{frame}
use Rattle.book.specs.Limits.{all_below}
use Rattle.book.proofs.Fields.{all_on}
use Rattle.runs.specs.RunBytes.{masks_bytes, RunFormed}
use Rattle.runs.specs.Computed.{last_of, percept_of, clear, run_faulty}
use Rattle.runs.specs.Edges.{Edges}
use Rattle.runs.proofs.Formed.{run_formed}
use Rattle.runs.proofs.Example.{no_run}

a_run : (d : Device) → d.n ≤ 64 → (s : List ℕ) → all_below 256 s ≡ true → run_faulty d.n d.m s ≡ false → RunFormed d s
a_run d few s h e = (run_formed d s few (all_on 256 s h)).0 e

pub edges : Edges
unfolding all_below frame bytes_le masks_bytes run_faulty pick both all less differ clear_from clear piece last_of percept_of
edges =
    record {
      i_0 = a_run Q (lit≤ tt) _ refl refl;
      i_32 = a_run Q (lit≤ tt) _ refl refl;
      i_33 = no_run Q (lit≤ tt) _ refl refl;
      size_0 = refl;
      size_32 = refl;
      byte_302 = no_run Q (lit≤ tt) _ refl refl;
      inside = a_run P (lit≤ tt) _ refl refl;
      command_3 = no_run P (lit≤ tt) _ refl refl;
      bit_2 = no_run P (lit≤ tt) _ refl refl;
    }
