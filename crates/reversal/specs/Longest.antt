-- A case of our own on the device Q at 01's and 02's limits: a run of 32 commands, each undone by one item of 8 reverse commands of weight 1,000, so
-- that the plan has 256 commands, the chain 32 legs and the sum is 256,000. Every number stands here as a literal. Assumes nothing: these are definitions.
use Rattle.std.specs.Prelude.{List, [], ◌∷◌, ℕ, replicate}
use Rattle.base.specs.Lists.{Each}
use Rattle.reversal.specs.Reversal.{Item, Accepted}
use Rattle.reversal.specs.Runs.{Run}
use Rattle.reversal.specs.Chains.{Leg}
use Rattle.reversal.specs.Answers.{Answers}
use Rattle.reversal.specs.Twelve.{Q, made, run, leg, found}

-- 1 / 1 1 1 1 1 1 1 1, 2, 2
abbrev pub items_long : List Item
items_long = made (1 ∷ []) (1 ∷ 1 ∷ 1 ∷ 1 ∷ 1 ∷ 1 ∷ 1 ∷ 1 ∷ []) 2 2 ∷ []

-- command 1 costs 1,000
abbrev pub weights_long : List ℕ
weights_long = 1 ∷ 1000 ∷ 1 ∷ []

-- command 1, 32 times; 2 at each of the 33 points
abbrev pub run_long : Run
run_long = run (replicate 32 1) (replicate 33 2)

-- item 0 from each point to the next lower one
abbrev pub legs_long : List Leg
legs_long =
    leg 0 32 31 ∷ leg 0 31 30 ∷ leg 0 30 29 ∷ leg 0 29 28 ∷ leg 0 28 27 ∷ leg 0 27 26 ∷ leg 0 26 25 ∷ leg 0 25 24
    ∷ leg 0 24 23 ∷ leg 0 23 22 ∷ leg 0 22 21 ∷ leg 0 21 20 ∷ leg 0 20 19 ∷ leg 0 19 18 ∷ leg 0 18 17 ∷ leg 0 17 16
    ∷ leg 0 16 15 ∷ leg 0 15 14 ∷ leg 0 14 13 ∷ leg 0 13 12 ∷ leg 0 12 11 ∷ leg 0 11 10 ∷ leg 0 10 9 ∷ leg 0 9 8
    ∷ leg 0 8 7 ∷ leg 0 7 6 ∷ leg 0 6 5 ∷ leg 0 5 4 ∷ leg 0 4 3 ∷ leg 0 3 2 ∷ leg 0 2 1 ∷ leg 0 1 0
    ∷ []

-- the sum from each of the 33 points
abbrev pub sums_long : List ℕ
sums_long =
    0 ∷ 8000 ∷ 16000 ∷ 24000 ∷ 32000 ∷ 40000 ∷ 48000 ∷ 56000 ∷ 64000 ∷ 72000 ∷ 80000
    ∷ 88000 ∷ 96000 ∷ 104000 ∷ 112000 ∷ 120000 ∷ 128000 ∷ 136000 ∷ 144000 ∷ 152000 ∷ 160000 ∷ 168000
    ∷ 176000 ∷ 184000 ∷ 192000 ∷ 200000 ∷ 208000 ∷ 216000 ∷ 224000 ∷ 232000 ∷ 240000 ∷ 248000 ∷ 256000
    ∷ []

pub record Longest : Type 0 where
  pub accepted : Each (Accepted Q) items_long
  pub longest : Answers Q weights_long items_long run_long (found (replicate 256 1) legs_long 256 32 256000 sums_long 0)
