-- The states that a command visits, one after the other (02, request 4), for the reader. Assumes nothing: these are definitions.
use Rattle.std.specs.Prelude.{◌≡◌, true, not, ◌&&◌, ℕ, ◌+◌, eqb, length, Option, Some, None}
use mathlib.Core.List.{List, [], ◌∷◌, foldl}
use Rattle.std.specs.Int.Bits.{bit_or}
use Rattle.base.specs.Tests.{pick}
use Rattle.base.specs.Present.{Present}
use Rattle.reversal.specs.Device.{Device}
use Rattle.states.specs.declared.StateSet.{StateSet}
use Rattle.states.specs.declared.Visited.{Visited}

module _ (d : Device) (c : ℕ) where
  -- one state more: its outcomes join the set, and it counts once
  abbrev pub gain : Visited → ℕ → Visited
  gain v s =
      record {
        set = record { mask = bit_or v.set.mask (d.outcomes s c) };
        able = v.able && not (eqb (d.outcomes s c) 0);
        visits = v.visits + 1;
      }

  -- the states of a row visited in its order
  abbrev pub visited_along : List ℕ → Visited
  visited_along xs = foldl gain (record { set = record { mask = 0 }; able = true; visits = 0 }) xs

  -- the command sent to the states of a row in its order, up to the first that can't carry it out; w is the outcomes so far
  unfoldable pub sent_along : ℕ → List ℕ → Option StateSet
  sent_along w [] = Some (record { mask = w })
  sent_along w (s ∷ xs) = pick (eqb (d.outcomes s c) 0) None (sent_along (bit_or w (d.outcomes s c)) xs)

  -- 02: "visit only the states present, lowest first"; "a count of the visits is proved to be the number of states present"
  pub record VisitsPresent (w : ℕ) (r : Visited) : Type 0 where
    pub in_order : (xs : List ℕ) → Present d.n w xs → r ≡ visited_along xs
    pub count : (xs : List ℕ) → Present d.n w xs → r.visits ≡ length xs

  -- and in sending: all of them, or those up to the first that is stuck
  pub record SendsToPresent (w : ℕ) (r : Option StateSet) : Type 0 where
    pub in_order : (xs : List ℕ) → Present d.n w xs → r ≡ sent_along 0 xs
