-- Further worked books with literal numbers, their bytes written out: one with 2 states and 3 commands, whose weights, k and r stand at their limits; Q's
-- device with the items of reversal's cases that the twelve can't tell; and the book of the longest plan. Assumes nothing: these are definitions.
use Rattle.std.specs.Prelude.{◌≡◌, List, [], ◌∷◌, ◌++◌, ℕ, length, take, drop}
use Rattle.reversal.specs.Reversal.{Item}
use Rattle.reversal.specs.Twelve.{made, ones}
use Rattle.reversal.specs.Slips.{P, items_phi, items_psi, items_tie}
use Rattle.reversal.specs.Longest.{items_long, weights_long}
use Rattle.book.specs.Book.{Book, device_of, bytes_of}
use Rattle.book.specs.Example.{move, moves_q, bytes_q, after_device}

-- ---- n and m differ

-- 1 / 0, 2, 1 and 1 1 1 1 1 1 1 1 / 1 1 1 1 1 1 1 0, 2, 1
abbrev pub items_p : List Item
items_p = made (1 ∷ []) (0 ∷ []) 2 1 ∷ made (1 ∷ 1 ∷ 1 ∷ 1 ∷ 1 ∷ 1 ∷ 1 ∷ 1 ∷ []) (1 ∷ 1 ∷ 1 ∷ 1 ∷ 1 ∷ 1 ∷ 1 ∷ 0 ∷ []) 2 1 ∷ []

-- the device P of reversal's cases: n 2, m 3
abbrev pub book_p : Book
book_p =
    record {
      n = 2;
      m = 3;
      weights = 1000 ∷ 1 ∷ 2 ∷ [];
      moves = move 0 0 1 ∷ move 0 1 2 ∷ move 0 2 3 ∷ move 1 0 1 ∷ move 1 1 2 ∷ [];
      items = items_p;
    }

-- the device, the weights (1,000 is 232, 3), five moves, two items, a record to a line
abbrev pub bytes_p : List ℕ
bytes_p =
    2 ∷ 0 ∷ 1 ∷ 0 ∷ 2 ∷ 3
    ∷ 6 ∷ 0 ∷ 5 ∷ 0 ∷ 232 ∷ 3 ∷ 1 ∷ 0 ∷ 2 ∷ 0
    ∷ 10 ∷ 0 ∷ 2 ∷ 0 ∷ 0 ∷ 0 ∷ 1 ∷ 0 ∷ 0 ∷ 0 ∷ 0 ∷ 0 ∷ 0 ∷ 0
    ∷ 10 ∷ 0 ∷ 2 ∷ 0 ∷ 0 ∷ 1 ∷ 2 ∷ 0 ∷ 0 ∷ 0 ∷ 0 ∷ 0 ∷ 0 ∷ 0
    ∷ 10 ∷ 0 ∷ 2 ∷ 0 ∷ 0 ∷ 2 ∷ 3 ∷ 0 ∷ 0 ∷ 0 ∷ 0 ∷ 0 ∷ 0 ∷ 0
    ∷ 10 ∷ 0 ∷ 2 ∷ 0 ∷ 1 ∷ 0 ∷ 1 ∷ 0 ∷ 0 ∷ 0 ∷ 0 ∷ 0 ∷ 0 ∷ 0
    ∷ 10 ∷ 0 ∷ 2 ∷ 0 ∷ 1 ∷ 1 ∷ 2 ∷ 0 ∷ 0 ∷ 0 ∷ 0 ∷ 0 ∷ 0 ∷ 0
    ∷ 20 ∷ 0 ∷ 3 ∷ 0 ∷ 1 ∷ 1 ∷ 1 ∷ 0 ∷ 2 ∷ 0 ∷ 0 ∷ 0 ∷ 0 ∷ 0 ∷ 0 ∷ 0 ∷ 1 ∷ 0 ∷ 0 ∷ 0 ∷ 0 ∷ 0 ∷ 0 ∷ 0
    ∷ 34 ∷ 0 ∷ 3 ∷ 0 ∷ 8 ∷ 8 ∷ 1 ∷ 1 ∷ 1 ∷ 1 ∷ 1 ∷ 1 ∷ 1 ∷ 1 ∷ 1 ∷ 1 ∷ 1 ∷ 1 ∷ 1 ∷ 1 ∷ 1 ∷ 0
    ∷ 2 ∷ 0 ∷ 0 ∷ 0 ∷ 0 ∷ 0 ∷ 0 ∷ 0 ∷ 1 ∷ 0 ∷ 0 ∷ 0 ∷ 0 ∷ 0 ∷ 0 ∷ 0
    ∷ []

-- its table of 6 entries, and its two slots
abbrev pub table_p : List ℕ
table_p = 1 ∷ 2 ∷ 3 ∷ 1 ∷ 2 ∷ 0 ∷ []

abbrev pub slots_p : List ℕ
slots_p =
    1 ∷ 1
    ∷ 1 ∷ 0 ∷ 0 ∷ 0 ∷ 0 ∷ 0 ∷ 0 ∷ 0
    ∷ 0 ∷ 0 ∷ 0 ∷ 0 ∷ 0 ∷ 0 ∷ 0 ∷ 0
    ∷ 2 ∷ 0 ∷ 0 ∷ 0 ∷ 0 ∷ 0 ∷ 0 ∷ 0
    ∷ 1 ∷ 0 ∷ 0 ∷ 0 ∷ 0 ∷ 0 ∷ 0 ∷ 0
    ∷ 8 ∷ 8
    ∷ 1 ∷ 1 ∷ 1 ∷ 1 ∷ 1 ∷ 1 ∷ 1 ∷ 1
    ∷ 1 ∷ 1 ∷ 1 ∷ 1 ∷ 1 ∷ 1 ∷ 1 ∷ 0
    ∷ 2 ∷ 0 ∷ 0 ∷ 0 ∷ 0 ∷ 0 ∷ 0 ∷ 0
    ∷ 1 ∷ 0 ∷ 0 ∷ 0 ∷ 0 ∷ 0 ∷ 0 ∷ 0
    ∷ []

-- ---- Q's device with other items

abbrev pub of_q : List ℕ → List Item → Book
of_q weights items = record { n = 3; m = 3; weights = weights; moves = moves_q; items = items }

abbrev pub book_phi : Book
book_phi = of_q ones items_phi

abbrev pub bytes_phi : List ℕ
bytes_phi = take 104 bytes_q ++ 20 ∷ 0 ∷ 3 ∷ 0 ∷ 1 ∷ 1 ∷ 1 ∷ 0 ∷ 2 ∷ 0 ∷ 0 ∷ 0 ∷ 0 ∷ 0 ∷ 0 ∷ 0 ∷ 1 ∷ 0 ∷ 0 ∷ 0 ∷ 0 ∷ 0 ∷ 0 ∷ 0 ∷ []

abbrev pub book_psi : Book
book_psi = of_q ones items_psi

abbrev pub bytes_psi : List ℕ
bytes_psi = take 104 bytes_q ++ 20 ∷ 0 ∷ 3 ∷ 0 ∷ 1 ∷ 1 ∷ 2 ∷ 0 ∷ 7 ∷ 0 ∷ 0 ∷ 0 ∷ 0 ∷ 0 ∷ 0 ∷ 0 ∷ 1 ∷ 0 ∷ 0 ∷ 0 ∷ 0 ∷ 0 ∷ 0 ∷ 0 ∷ []

-- items 3, 4 and 2 of Q, whose records stand from 178, 201 and 153
abbrev pub book_tie : Book
book_tie = of_q ones items_tie

abbrev pub bytes_tie : List ℕ
bytes_tie = take 104 bytes_q ++ (drop 178 bytes_q ++ take 25 (drop 153 bytes_q))

-- the book of the longest plan: weights 1, 1,000, 1, one item with r = 8
abbrev pub book_long : Book
book_long = of_q weights_long items_long

abbrev pub bytes_long : List ℕ
bytes_long =
    after_device (6 ∷ 0 ∷ 5 ∷ 0 ∷ 1 ∷ 0 ∷ 232 ∷ 3 ∷ 1 ∷ 0
    ∷ take 98 (drop 6 bytes_q) ++ 27 ∷ 0 ∷ 3 ∷ 0 ∷ 1 ∷ 8 ∷ 1 ∷ 1 ∷ 1 ∷ 1 ∷ 1 ∷ 1 ∷ 1 ∷ 1 ∷ 1
    ∷ 2 ∷ 0 ∷ 0 ∷ 0 ∷ 0 ∷ 0 ∷ 0 ∷ 0 ∷ 2 ∷ 0 ∷ 0 ∷ 0 ∷ 0 ∷ 0 ∷ 0 ∷ 0 ∷ [])

pub record Further : Type 0 where
  pub bytes : bytes_of book_p ≡ bytes_p
  pub size : length bytes_p ≡ 148
  pub device : device_of book_p ≡ P
  pub bytes_of_phi : bytes_of book_phi ≡ bytes_phi
  pub bytes_of_psi : bytes_of book_psi ≡ bytes_psi
  pub bytes_of_tie : bytes_of book_tie ≡ bytes_tie
  pub bytes_of_long : bytes_of book_long ≡ bytes_long
