-- Forecasts of Q's book, of its device with weights and two items, and of one with 2 states and 3 commands; each of its codes. With literal numbers. Assumes nothing: these are definitions.
use Rattle.std.specs.Prelude.{◌≡◌, List, [], ◌∷◌, ◌++◌, ℕ, take}
use Rattle.book.specs.Book.{bytes_of}
use Rattle.book.specs.Example.{move, bytes_q, bytes_dear, many, with_move, after_device}
use Rattle.book.specs.Further.{bytes_p}
use Rattle.forecast.specs.declared.Forecasted.{Forecasted}
use Rattle.forecast.specs.Forecasts.{Forecasts}

-- the forecast of these bytes for runs of i commands is this
pub record Foresees (book : List ℕ) (i : ℕ) (answer : Forecasted) : Type 0 where
  pub result : {r : Forecasted} → Forecasts book i r → r ≡ answer

pub record QForecast : Type 0 where
  -- Q's items: 3 × (1 + 2), 1 × (1 + 1), 3 × (2 + 1), 1 × (1 + 0) and 3 × (1 + 1) units, 27 in all; the largest r is 2
  pub empty_run : Foresees bytes_q 0 (record { code = 0; place = 0; units = 27; plan_bytes = 0; legs = 0 })
  pub two : Foresees bytes_q 2 (record { code = 0; place = 0; units = 27; plan_bytes = 4; legs = 2 })
  pub longest : Foresees bytes_q 32 (record { code = 0; place = 0; units = 27; plan_bytes = 64; legs = 32 })
  -- 02: "an i above 32 is 9"
  pub too_long : Foresees bytes_q 33 (record { code = 9; place = 0; units = 0; plan_bytes = 0; legs = 0 })
  -- the book with weights: 1 × (1 + 2) and 1 × (1 + 3) units; the largest r is 3
  pub dear : Foresees bytes_dear 5 (record { code = 0; place = 0; units = 7; plan_bytes = 15; legs = 5 })
  -- 02: "(0 without items)": the device and the moves alone
  pub no_items : Foresees (take 104 bytes_q) 32 (record { code = 0; place = 0; units = 0; plan_bytes = 0; legs = 32 })
  -- 02: "after reading's codes": with the last byte cut off, the code and place of the last item's record
  pub cut_off : Foresees (take 224 bytes_q) 33 (record { code = 2; place = 201; units = 0; plan_bytes = 0; legs = 0 })
  -- each of reading's other codes, before 9 too
  pub three : Foresees (bytes_q ++ 0 ∷ 0 ∷ 4 ∷ 0 ∷ []) 33 (record { code = 3; place = 225; units = 0; plan_bytes = 0; legs = 0 })
  pub four : Foresees (bytes_q ++ 1 ∷ 0 ∷ 3 ∷ 0 ∷ 9 ∷ []) 33 (record { code = 4; place = 225; units = 0; plan_bytes = 0; legs = 0 })
  pub five : Foresees (bytes_q ++ 2 ∷ 0 ∷ 3 ∷ 0 ∷ 1 ∷ 9 ∷ []) 33 (record { code = 5; place = 225; units = 0; plan_bytes = 0; legs = 0 })
  pub six : Foresees (with_move (move 0 2 6)) 33 (record { code = 6; place = 48; units = 0; plan_bytes = 0; legs = 0 })
  pub seven : Foresees (bytes_of many ++ 0 ∷ 0 ∷ 3 ∷ 0 ∷ []) 33 (record { code = 7; place = 1478; units = 0; plan_bytes = 0; legs = 0 })
  pub thirteen : Foresees (after_device (6 ∷ 0 ∷ 5 ∷ 0 ∷ 1 ∷ 0 ∷ 1 ∷ 0 ∷ 1 ∷ 0 ∷ [])) 33
      (record { code = 13; place = 6; units = 0; plan_bytes = 0; legs = 0 })
  -- 2 states and 3 commands: 1 × (1 + 1) and 1 × (8 + 8) units; the largest r is 8: "plan bytes and legs that no run of i commands exceeds"
  pub uneven : Foresees bytes_p 32 (record { code = 0; place = 0; units = 18; plan_bytes = 256; legs = 32 })
