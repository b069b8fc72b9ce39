-- The states present, lowest first, are those that `visit` and `sent` go through. Assumes nothing.
use mathlib.Core.Path.{◌≡◌, sym, ap, ◌∙◌}
use mathlib.Core.List.{List}
use Prim.Native.Nat.{ℕ, ◌≤◌}
use Rattle.std.specs.Prelude.{Option}
use Rattle.base.specs.Present.{Present}
use Rattle.base.proofs.Present.{present-is, present_unique}
use Rattle.reversal.specs.Device.{Device}
use Rattle.states.specs.declared.Visited.{Visited}
use Rattle.states.specs.declared.StateSet.{StateSet}
use Rattle.states.specs.StateSets.{visited_in, sent_in}
use Rattle.states.specs.Visits.{visited_along, sent_along, VisitsPresent, SendsToPresent}
use Rattle.states.proofs.Laws.{in_limits_lem, visited_all_lem, sent_all_lem}
use Rattle.states.proofs.Members.{visits-present}

module _ (d : Device) (c : ℕ) where
  module _ (w : ℕ) (hn : d.n ≤ 64) (hm : d.m ≤ 32) where
    -- the row of the states present
    row_visited : (xs : List ℕ) → Present d.n w xs → visited_along d c xs ≡ visited_in d c w
    row_visited xs p = ap (visited_along d c) (present_unique p (present-is d.n w)) ∙ visited_all_lem d c w (in_limits_lem d.n d.m hn hm)

    pub visit_present : {r : Visited} → r ≡ visited_in d c w → VisitsPresent d c w r
    visit_present e =
        record {
          in_order = λ xs p. e ∙ sym (row_visited xs p);
          count = λ xs p. ap (λ (v : Visited). v.visits) e ∙ visits-present d c w hn hm xs p;
        }

    pub sent_present : {r : Option StateSet} → r ≡ sent_in d c w → SendsToPresent d c w r
    sent_present e =
        record {
          in_order = λ xs p. e ∙ sym (ap (sent_along d c 0) (present_unique p (present-is d.n w)) ∙ sent_all_lem d c w (in_limits_lem d.n d.m hn hm));
        }
