-- The ways through the search for the lowest row of commands: a whole row, one command more at the next place, and the lengths. Assumes nothing.
use mathlib.Core.Path.{◌≡◌, refl, sym, ap, ◌∙◌, subst}
use mathlib.Core.Bool.{Bool, true, false}
use Prim.Native.Nat.{ℕ, zero, suc, ◌+◌, ◌-◌, ◌*◌, ◌^◌, ◌≤◌, ◌<◌}
use native.Mathlib.Nat.{pow-suc, sub-zero}
use native.Mathlib.Numerals.{add-one}
use native.Mathlib.Omega.{arith}
use Rattle.std.specs.Prelude.{Option, Some, None}
use Rattle.std.specs.Option.{option_or, option_map_or}
use Rattle.base.specs.Tests.{pick}
use Rattle.finder.specs.declared.Found.{Found}
use Rattle.finder.specs.Finds.{refusal}
use Rattle.finder.specs.Contract.{tries, lowest_row, answer, shortest_row}

-- ---- a whole row
module _ (test : ℕ → Bool) (m left place row : ℕ) where
  pub row_passes : left ≡ 0 → test row ≡ true → Some row ≡ lowest_row test m left place row
  unfolding lowest_row pick
  row_passes z t = rw (z, t)

  pub row_fails : left ≡ 0 → test row ≡ false → None ≡ lowest_row test m left place row
  unfolding lowest_row pick
  row_fails z t = rw (z, t)

  -- ---- one command more: with c, and with those from c on, where none below c gives a row
  abbrev with : ℕ → Option ℕ
  with c = lowest_row test m (left - 1) (place * 256) (row + c * place)

  abbrev pub Trying : ℕ → Type 0
  Trying c = tries with c (m - c) ≡ lowest_row test m left place row

  more_left : (l : ℕ) → left ≡ l → (left ≡ 0 → ⊥) → tries with 0 m ≡ lowest_row test m left place row
  unfolding lowest_row
  more_left zero e n = absurd (n e)
  more_left (suc l) e n =
      let less : left - 1 ≡ l = omega (arith, e) in
      subst (λ (k : ℕ). tries (λ c. lowest_row test m k (place * 256) (row + c * place)) 0 m ≡ lowest_row test m left place row) (sym less)
      (rw e)

  pub try_first : (left ≡ 0 → ⊥) → Trying 0
  try_first n = rw (sub-zero m) (more_left left refl n)

  module _ (c : ℕ) (below : c < m) (t : Trying c) where
    -- the tries that are left
    abbrev rest : Option ℕ
    rest = tries with (suc c) (m - suc c)

    one_more : option_or (with c) rest ≡ lowest_row test m left place row
    unfolding tries
    one_more = let e : m - c ≡ suc (m - suc c) = omega (arith, below) in rw e at t

    pub try_found : (x : ℕ) → Some x ≡ with c → Some x ≡ lowest_row test m left place row
    try_found x e = ap (λ (y : Option ℕ). option_or y rest) e ∙ one_more

    pub try_next : None ≡ with c → Trying (c + 1)
    try_next e = rw add-one (ap (λ (y : Option ℕ). option_or y rest) e ∙ one_more)

  pub try_none : (c : ℕ) → m ≤ c → Trying c → None ≡ lowest_row test m left place row
  unfolding tries
  try_none c l t = let e : m - c ≡ 0 = omega (arith, l) in rw e at t

-- ---- the search goes on with one command more behind the row
pub with_one : (test : ℕ → ℕ → Bool) (m count left number c count' number' : ℕ) → (left ≡ 0 → ⊥) → count' ≡ count + 1 → number' ≡ number + c * 256 ^ count
    → lowest_row (test (count' + (left - 1))) m (left - 1) (256 ^ count') number'
    ≡ lowest_row (test (count + left)) m (left - 1) (256 ^ count * 256) (number + c * 256 ^ count)
with_one test m count left number c count' number' some e q =
    let size : count' + (left - 1) ≡ count + left = omega (arith, some, e) in
    let place : 256 ^ count' ≡ 256 ^ count * 256 = ap (λ (k : ℕ). 256 ^ k) (e ∙ add-one count) ∙ pow-suc 256 count in
    rw (size, place, q)

-- ---- the lengths: no row of fewer than `count` commands is found
module _ (test : ℕ → ℕ → Bool) (m : ℕ) where
  abbrev pub Longer : ℕ → Type 0
  Longer count = shortest_row test m count (4 - count) ≡ shortest_row test m 0 4

  module _ (count : ℕ) (few : count < 4) (l : Longer count) where
    abbrev here : Option ℕ
    here = lowest_row (test count) m count 1 0

    abbrev longer : Found
    longer = shortest_row test m (suc count) (4 - suc count)

    one-length : option_map_or (answer count) here longer ≡ shortest_row test m 0 4
    unfolding shortest_row
    one-length = let e : 4 - count ≡ suc (4 - suc count) = omega (arith, few) in rw e at l

    pub longer_found : (row : ℕ) → Some row ≡ here → answer count row ≡ shortest_row test m 0 4
    longer_found row e = ap (λ (y : Option ℕ). option_map_or (answer count) y longer) e ∙ one-length

    pub longer_next : None ≡ here → Longer (count + 1)
    longer_next e = rw add-one (ap (λ (y : Option ℕ). option_map_or (answer count) y longer) e ∙ one-length)

  pub longer_none : (count : ℕ) → 4 ≤ count → Longer count → refusal 15 0 ≡ shortest_row test m 0 4
  unfolding shortest_row
  longer_none count h l = let e : 4 - count ≡ 0 = omega (arith, h) in rw e at l
