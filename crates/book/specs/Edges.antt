-- Worked cases at both sides of the limits of a book's bytes (01, "States, commands, sets" and "The book's bytes"; 02, request 5), with literal numbers:
-- well-formed at each limit, refused one beyond it. Assumes nothing: these are definitions.
use Rattle.std.specs.Prelude.{List, [], ◌∷◌, ◌++◌, ℕ, replicate}
use Rattle.reversal.specs.Twelve.{made}
use Rattle.book.specs.Book.{move_rec, item_rec, frame, WellFormed, bytes_of}
use Rattle.book.specs.Refusal.{Refusal}
use Rattle.book.specs.Example.{move, many, after_device}

-- a book of a device alone: "n, m, one byte each"
abbrev pub device_alone : ℕ → ℕ → List ℕ
device_alone n m = 2 ∷ 0 ∷ 1 ∷ 0 ∷ n ∷ m ∷ []

-- Q's device, then three weights
abbrev pub with_weights : ℕ → ℕ → ℕ → ℕ → List ℕ
with_weights a b c d = after_device (6 ∷ 0 ∷ 5 ∷ 0 ∷ a ∷ b ∷ c ∷ d ∷ 2 ∷ 0 ∷ [])

-- Q's device, then an item with k times command 2 forward and r times command 1 back; its body has 18 + k + r bytes
abbrev pub with_counts : ℕ → ℕ → ℕ → List ℕ
with_counts size k r = after_device (size ∷ 0 ∷ 3 ∷ 0 ∷ k ∷ r ∷ replicate k 2 ++ (replicate r 1 ++ replicate 16 0))

-- a device with 2 states and 3 commands, then a move
abbrev pub moved : ℕ → ℕ → ℕ → List ℕ
moved s c w = device_alone 2 3 ++ frame (move_rec (move s c w))

-- a device with 2 states and 3 commands, then an item
abbrev pub itemed : ℕ → ℕ → ℕ → ℕ → List ℕ
itemed c d phi psi = device_alone 2 3 ++ frame (item_rec (made (c ∷ []) (d ∷ []) phi psi))

pub record Edges : Type 0 where
  -- "n from 1 to 64"
  pub n_1 : WellFormed (device_alone 1 3)
  pub n_64 : WellFormed (device_alone 64 3)
  pub n_0 : Refusal (device_alone 0 3) 5 0
  pub n_65 : Refusal (device_alone 65 3) 5 0
  -- "m from 1 to 32"
  pub m_1 : WellFormed (device_alone 3 1)
  pub m_32 : WellFormed (device_alone 3 32)
  pub m_0 : Refusal (device_alone 3 0) 5 0
  pub m_33 : Refusal (device_alone 3 33) 5 0
  -- "each 1 to 1,000": 1 and 1,000, 0 and 1,001
  pub weights_within : WellFormed (with_weights 1 0 232 3)
  pub weight_0 : Refusal (with_weights 0 0 232 3) 5 6
  pub weight_1001 : Refusal (with_weights 1 0 233 3) 5 6
  -- "k (1 to 8), r (0 to 8)"
  pub k_1_r_0 : WellFormed (with_counts 19 1 0)
  pub k_8_r_8 : WellFormed (with_counts 34 8 8)
  pub k_0 : Refusal (with_counts 18 0 0) 5 6
  pub k_9 : Refusal (with_counts 27 9 0) 5 6
  pub r_9 : Refusal (with_counts 28 1 9) 5 6
  -- "At most 64 items": `item_65` of Spoilt is one beyond
  pub items_64 : WellFormed (bytes_of many)
  -- the state of a move is below n, its command below m; of 2 states and 3 commands
  pub last_move : WellFormed (moved 1 2 3)
  pub state_2 : Refusal (moved 2 0 3) 5 6
  pub command_3 : Refusal (moved 0 3 3) 5 6
  -- "outcome mask, not zero", "Every mask has no bit at n or above."
  pub mask_1 : WellFormed (moved 1 2 1)
  pub mask_0 : Refusal (moved 1 2 0) 5 6
  pub mask_4 : Refusal (moved 1 2 4) 5 6
  -- an item's commands are below m, and so are its masks' bits below n
  pub item_within : WellFormed (itemed 2 2 3 3)
  pub forward_3 : Refusal (itemed 3 2 3 3) 5 6
  pub reverse_3 : Refusal (itemed 2 3 3 3) 5 6
  pub phi_4 : Refusal (itemed 2 2 4 3) 5 6
  pub psi_4 : Refusal (itemed 2 2 3 4) 5 6
  -- the highest bit of all: state 63 of 64
  pub bit_63 : WellFormed (device_alone 64 3 ++ 10 ∷ 0 ∷ 2 ∷ 0 ∷ 63 ∷ 2 ∷ 0 ∷ 0 ∷ 0 ∷ 0 ∷ 0 ∷ 0 ∷ 0 ∷ 128 ∷ [])
  pub bit_63_of_63 : Refusal (device_alone 63 3 ++ 10 ∷ 0 ∷ 2 ∷ 0 ∷ 62 ∷ 2 ∷ 0 ∷ 0 ∷ 0 ∷ 0 ∷ 0 ∷ 0 ∷ 0 ∷ 128 ∷ []) 5 6
  -- "State × m + command rises strictly": with 3 commands 1, 0 follows 0, 2 at the next index, and 0, 2 again doesn't rise, nor does 0, 1
  pub rises : WellFormed (moved 0 2 1 ++ frame (move_rec (move 1 0 1)))
  pub again : Refusal (moved 0 2 1 ++ frame (move_rec (move 0 2 1))) 6 20
  pub falls : Refusal (moved 0 2 1 ++ frame (move_rec (move 0 1 1))) 6 20
