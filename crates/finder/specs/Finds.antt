-- What finding the reverse for an item answers and leaves in the lent table (02, request 8), for the reader. Assumes nothing: these are definitions.
use Rattle.std.specs.Prelude.{◌≡◌, List, ◌++◌, ℕ, ◌-◌, ◌≤◌, length, replicate}
use Rattle.reversal.specs.Device.{Device}
use Rattle.reversal.specs.Reversal.{Item, AllowedItem, Accepted}
use Rattle.reversal.specs.Chains.{LexLe}
use Rattle.book.specs.Book.{Book, device_of}
use Rattle.checker.specs.declared.TableChecking.{TableChecking}
use Rattle.checker.specs.TableChecks.{TableChecked, TableChecks}
use Rattle.finder.specs.declared.Found.{Found}

-- 02: "Given a book, forward commands, phi and psi, find a reverse": what the reverse is sought for
pub record Sought : Type 0 where
  pub forward : List ℕ
  pub phi : ℕ
  pub psi : ℕ

abbrev pub sought : List ℕ → ℕ → ℕ → Sought
sought forward phi psi = record { forward = forward; phi = phi; psi = psi }

-- the item that a reverse makes of it
abbrev pub item_of : Sought → List ℕ → Item
item_of q cs = record { forward = q.forward; reverse = cs; phi = q.phi; psi = q.psi }

-- "a reverse of at most 3 commands that makes an accepted item"
pub record Makes (d : Device) (q : Sought) (cs : List ℕ) : Type 0 where
  pub short : length cs ≤ 3
  pub allowed : AllowedItem d (item_of q cs)
  pub accepted : Accepted d (item_of q cs)

-- "the shortest, and among equals the one with lower commands first", of all that do so
pub record FirstOf (d : Device) (q : Sought) (cs : List ℕ) : Type 0 where
  pub makes : Makes d q cs
  pub shortest : (ds : List ℕ) → Makes d q ds → length cs ≤ length ds
  pub lowest : (ds : List ℕ) → Makes d q ds → length ds ≡ length cs → LexLe cs ds

-- some item may hold the forward commands and masks, whatever its reverse; 14: "forward commands or masks that no item may hold"
abbrev pub MayHold : Device → Sought → Type 0
MayHold d q = (cs : List ℕ) × AllowedItem d (item_of q cs)

-- a code and its place; no reverse is given, so the count and the commands are 0
abbrev pub refusal : ℕ → ℕ → Found
refusal code place = record { code = code; place = place; count = 0; commands = replicate 3 0 }

-- "commands unused in the answer are 0"
abbrev pub reverse_is : List ℕ → Found
reverse_is cs = record { code = 0; place = 0; count = length cs; commands = cs ++ replicate (3 - length cs) 0 }

-- of a book, what is sought and the table at entry; the result and the table at exit. "The only buffer is a table, read as by checking, on 14 and 15 too"
pub data Finds (book : List ℕ) (q : Sought) (table : List ℕ) (result : Found) (table' : List ℕ) : Type 0 where
  -- 1, "the book's own codes, 8 and 12 too", and the table, as checking with it gives them
  unaccepted : {c : TableChecking} → TableChecks book table c table' → (c.code ≡ 0 → ⊥) → result ≡ refusal c.code c.place
      → Finds book q table result table'
  -- "14, 0, forward commands or masks that no item may hold, after the book's own codes"
  barred : (b : Book) → TableChecked book table b table' → (MayHold (device_of b) q → ⊥) → result ≡ refusal 14 0 → Finds book q table result table'
  -- "15, 0, no such reverse, last": "exactly when no other refusal is due and no reverse up to that length does so"
  none : (b : Book) → TableChecked book table b table' → MayHold (device_of b) q → ((cs : List ℕ) → Makes (device_of b) q cs → ⊥) → result ≡ refusal 15 0
      → Finds book q table result table'
  -- the reverse
  found : (b : Book) → TableChecked book table b table' → (cs : List ℕ) → FirstOf (device_of b) q cs → result ≡ reverse_is cs
      → Finds book q table result table'
