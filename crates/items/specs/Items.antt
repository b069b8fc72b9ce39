-- The weights, moves and items in a book's bytes, for every allowed book whose bytes these are. Assumes nothing: these are definitions.
use Rattle.std.specs.Prelude.{◌≡◌, List, ◌++◌, map, ℕ, ◌+◌, ◌≤◌, ◌<◌, length, get_or, drop, Option, MatchOption}
use Rattle.reversal.specs.Reversal.{Item}
use Rattle.octets.specs.Parts.{le_at, piece}
use Rattle.book.specs.Book.{Book, AllowedBook, bytes_of, framed, move_rec, item_rec, items_of}
use Rattle.items.specs.declared.Parts.{Parts}

-- the contract of `weight_at`
pub record WeightAt (s : List ℕ) (command r : ℕ) : Type 0 where
  pub weight : (b : Book) → AllowedBook b → bytes_of b ≡ s → command < b.m → r ≡ get_or b.weights command 0

-- the records of b's moves and items are what stands in s from `at` on
abbrev pub MovesBegin : List ℕ → Book → ℕ → Type 0
MovesBegin s b at = drop at s ≡ framed (map move_rec b.moves ++ map item_rec (items_of b))

-- the contract of `first_move`
pub record FirstMove (s : List ℕ) (r : ℕ) : Type 0 where
  pub begins : (b : Book) → AllowedBook b → bytes_of b ≡ s → MovesBegin s b r

-- the records of b's items from item i on are what stands in s from `at` on
abbrev pub Begins : List ℕ → Book → ℕ → ℕ → Type 0
Begins s b i at = drop at s ≡ framed (map item_rec (drop i (items_of b)))

-- s is the bytes of the allowed book b, and the record of its item i begins at `at`
pub record ItemStands (s : List ℕ) (b : Book) (i at : ℕ) : Type 0 where
  pub allowed : AllowedBook b
  pub bytes : bytes_of b ≡ s
  pub known : i < length (items_of b)
  pub begins : Begins s b i at

-- ---- the item at a place, for any bytes
-- with k forward and r reverse commands, which stand from p on, and the masks after them
abbrev pub item_from : List ℕ → ℕ → ℕ → ℕ → Item
item_from s p k r =
    record {
      forward = piece k s p;
      reverse = piece r s (p + k);
      phi = le_at 8 s (p + k + r);
      psi = le_at 8 s (p + k + r + 8);
    }

-- with the counts of the record that begins at `at`
unfoldable pub item_in : List ℕ → ℕ → Item
item_in s at = item_from s (at + 6) (get_or s (at + 4) 0) (get_or s (at + 5) 0)

-- with its parts where they are said to stand
abbrev pub held_in : List ℕ → Parts → Item
held_in s p =
    record {
      forward = piece p.k s p.forward;
      reverse = piece p.r s p.reverse;
      phi = le_at 8 s p.masks;
      psi = le_at 8 s (p.masks + 8);
    }

-- the contract of `parts_at`: the parts are those of the item there, and its commands stand before `next`; where an item of a book stands the next one's
-- record begins at `next`
pub record PartsAt (s : List ℕ) (at : ℕ) (p : Parts) : Type 0 where
  pub k_byte : p.k < 256
  pub r_byte : p.r < 256
  pub past : at < length s → at < p.next
  pub held : held_in s p ≡ item_in s at
  pub inside : (p.forward + p.k ≤ p.next) × (p.reverse + p.r ≤ p.next)
  pub next : {b : Book} {i : ℕ} → ItemStands s b i at → Begins s b (i + 1) p.next

-- what `ItemRecords` gives of s from `at` on, and where it then stands, in s': the place and the parts of the record there, or nothing past the end
abbrev pub ItemComes : List ℕ → ℕ → Option (ℕ × Parts) → List ℕ → ℕ → Type 0
ItemComes s at r s' at' =
    (s' ≡ s)
    × MatchOption r ((length s ≤ at) × (at' ≡ at)) (λ x. (at < length s) × (x.0 ≡ at) × PartsAt s at x.1 × (at' ≡ x.1.next))

-- what `MoveRecords` gives of s from `at` on, and where it then stands, in s': the place of the move's record there, or nothing where none stands
abbrev pub MoveComes : List ℕ → ℕ → Option ℕ → List ℕ → ℕ → Type 0
MoveComes s at r s' at' =
    (s' ≡ s)
    × MatchOption r ((at + 14 ≤ length s → le_at 2 s (at + 2) ≡ 2 → ⊥) × (at' ≡ at))
    (λ x. (x ≡ at) × (at + 14 ≤ length s) × (le_at 2 s (at + 2) ≡ 2) × (at' ≡ at + 14))

-- the contract of `first_item`
pub record FirstItem (s : List ℕ) (r : ℕ) : Type 0 where
  pub begins : (b : Book) → AllowedBook b → bytes_of b ≡ s → Begins s b 0 r

-- the contract of `places`
pub record Placed (s places : List ℕ) : Type 0 where
  pub size : length places ≡ 64
  pub begins : (b : Book) → AllowedBook b → bytes_of b ≡ s → (i : ℕ) → i < length (items_of b) → Begins s b i (get_or places i 0)
