-- What finding computes: the ends that it keeps, the test of a row of commands, and the search. proofs/Exactly ties it to specs/Finds. Assumes nothing:
-- these are definitions.
use Rattle.std.specs.Prelude.{◌≡◌, Bool, false, List, [], ℕ, zero, suc, ◌+◌, ◌*◌, ◌<◌, T, Option, Some, None, length, get_or}
use Rattle.std.specs.Option.{option_or, option_map_or}
use Rattle.base.specs.Sets.{NoBitFrom}
use Rattle.base.specs.Lists.{Bytes}
use Rattle.base.specs.Tests.{pick, imp}
use Rattle.base.specs.Bounded.{all}
use Rattle.base.specs.Cardinality.{member}
use Rattle.octets.specs.Le.{bytes_le}
use Rattle.reversal.specs.Device.{Device}
use Rattle.reversal.specs.Computed.Sets.{ends, start_used, accepts}
use Rattle.book.specs.Limits.{counts_fine, fields_fine}
use Rattle.checker.specs.Contract.{returns_in}
use Rattle.finder.specs.declared.Found.{Found}
use Rattle.finder.specs.Finds.{Sought, item_of, refusal, Finds}

-- ---- what is sought

-- some item may hold it: one with no reverse command
unfoldable pub holds : ℕ → ℕ → Sought → Bool
holds n m q = pick (counts_fine (length q.forward) 0) (fields_fine n m (item_of q [])) false

-- the contract of `keep_ends`: the starts that are used, and the ends of each at its own number
pub record EndsKept (d : Device) (q : Sought) (kept : List ℕ) (used : ℕ) : Type 0 where
  pub size : length kept ≡ 64
  pub low : NoBitFrom d.n used
  pub starts : (S : ℕ) → S < d.n → member used S ≡ start_used d (item_of q []) S
  pub stored : (S : ℕ) → S < d.n → T (member used S) → get_or kept S 0 ≡ ends d q.forward q.phi S

-- ---- the test of a row of commands: every start that is used comes back from its ends

unfoldable pub all_back : Device → List ℕ → ℕ → List ℕ → Bool
all_back d kept used cs = all (λ S. imp (member used S) (returns_in d (get_or kept S 0) cs S)) d.n

-- the mask of the commands below m that pass a test
pub record Passing (m : ℕ) (test : ℕ → Bool) (commands : ℕ) : Type 0 where
  pub low : NoBitFrom m commands
  pub each : (c : ℕ) → c < m → member commands c ≡ test c

-- ---- the search, for any test of rows

-- what f finds with the first command, of n from c on, with which it finds a row
unfoldable pub tries : (ℕ → Option ℕ) → ℕ → ℕ → Option ℕ
tries f c zero = None
tries f c (suc n) = option_or (f c) (tries f (suc c) n)

-- of the rows that begin with `row` and have `left` commands below m more, the first of which counts `place`, the lowest that passes
unfoldable pub lowest_row : (ℕ → Bool) → ℕ → ℕ → ℕ → ℕ → Option ℕ
lowest_row test m zero place row = pick (test row) (Some row) None
lowest_row test m (suc left) place row = tries (λ c. lowest_row test m left (place * 256) (row + c * place)) 0 m

-- the answer with a row of `count` commands
abbrev pub answer : ℕ → ℕ → Found
answer count row = record { code = 0; place = 0; count = count; commands = bytes_le 3 row }

-- rows of `count` commands, then of one more, n lengths in all
unfoldable pub shortest_row : (ℕ → ℕ → Bool) → ℕ → ℕ → ℕ → Found
shortest_row test m count zero = refusal 15 0
shortest_row test m count (suc n) = option_map_or (answer count) (lowest_row (test count) m count 1 0) (shortest_row test m (suc count) n)

-- what is found for a device, by the check of each item on sets
unfoldable pub found_in : Device → Sought → Found
found_in d q = pick (holds d.n d.m q) (shortest_row (λ count row. accepts d (item_of q (bytes_le count row))) d.m 0 4) (refusal 14 0)

-- the contract of `find`: there is one answer only (proofs/Unique)
pub record FindAs (book : List ℕ) (q : Sought) (table : List ℕ) (r : Found) (table' : List ℕ) : Type 0 where
  pub bytes : Bytes book
  pub says : Finds book q table r table'
