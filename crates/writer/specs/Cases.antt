-- Writing's refusals on worked tables, slots and weights, with literal numbers: each code in its order, with a later fault beside it. Assumes nothing: these
-- are definitions.
use Rattle.std.specs.Prelude.{List, ◌∷◌, ◌++◌, ℕ, take, drop, replicate}
use Rattle.book.specs.Lent.{lent}
use Rattle.book.specs.Example.{first_slots}
use Rattle.writer.specs.Writes.{Refuses}

abbrev pub zeros : ℕ → List ℕ
zeros k = replicate k 0

-- weights that three commands may have, the lowest and the highest; those past them are ignored
abbrev pub fine : List ℕ
fine = 1 ∷ 1000 ∷ 2 ∷ zeros 29

pub record Spoilt : Type 0 where
  -- "1", then 5 for n
  pub short_table : Refuses 0 3 65 (lent (zeros 2047) (zeros 2176) fine) (zeros 31178) 1 0
  pub short_slots : Refuses 0 3 65 (lent (zeros 2048) (zeros 2175) fine) (zeros 31178) 1 0
  pub short_weights : Refuses 0 3 65 (lent (zeros 2048) (zeros 2176) (zeros 31)) (zeros 31178) 1 0
  pub short_output : Refuses 0 3 65 (lent (zeros 2048) (zeros 2176) fine) (zeros 31177) 1 0
  -- "5 at place 0 for n or m", then 7
  pub no_states : Refuses 0 3 65 (lent (zeros 2048) (zeros 2176) fine) (zeros 31178) 5 0
  pub states_65 : Refuses 65 3 65 (lent (zeros 2048) (zeros 2176) fine) (zeros 31178) 5 0
  pub no_commands : Refuses 3 0 65 (lent (zeros 2048) (zeros 2176) fine) (zeros 31178) 5 0
  pub commands_33 : Refuses 3 33 65 (lent (zeros 2048) (zeros 2176) fine) (zeros 31178) 5 0
  -- "7 at place 0 for a count above 64", then 5 for weight 1
  pub count_65 : Refuses 3 3 65 (lent (0 ∷ 8 ∷ zeros 2046) (zeros 2176) (1 ∷ zeros 31)) (zeros 31178) 7 0
  -- "refuses a wrong weight with 5 at the lowest such command, straight after 7": command 1, and command 2 too; then 5 for entry 0
  pub weight_1 : Refuses 3 3 1 (lent (8 ∷ zeros 2047) (zeros 2176) (1 ∷ 0 ∷ 1001 ∷ zeros 29)) (zeros 31178) 5 1
  pub weight_2 : Refuses 3 3 1 (lent (8 ∷ zeros 2047) (zeros 2176) (1 ∷ 1000 ∷ 1001 ∷ zeros 29)) (zeros 31178) 5 2
  -- "5 at the lowest index of an entry with a bit at n or above": entry 2, and entry 3 too; then 5 for slot 0
  pub entry_2 : Refuses 3 3 1 (lent (0 ∷ 0 ∷ 8 ∷ 8 ∷ zeros 2044) (zeros 2176) fine) (zeros 31178) 5 2
  -- "5 at the lowest slot whose fields break an item's limits": slot 1 has k = 0, and slot 2 too
  pub slot_1 : Refuses 3 3 3 (lent (zeros 2048) (take 34 first_slots ++ zeros 2142) fine) (zeros 31178) 5 1
  -- "or whose unused command bytes aren't zero": the second forward byte of slot 0, whose k is 1
  pub unused_byte : Refuses 3 3 1 (lent (zeros 2048) (1 ∷ 2 ∷ 2 ∷ 1 ∷ drop 4 first_slots ++ zeros 2108) fine) (zeros 31178) 5 0
