-- The step from a rule to a table, for any device rule: where a function works the rule out, one test over all entries, computed, says that the table
-- equals the rule at each state and command. Then a lookup's row. Assumes nothing.
use mathlib.Core.Path.{◌≡◌, sym, ◌∙◌, subst, subst⁻¹, subst₂}
use mathlib.Core.List.{List}
use Prim.Native.Nat.{ℕ, ◌+◌, ◌*◌, ◌/◌, ◌%◌, ◌≤◌, ◌<◌}
use native.Mathlib.Nat.{mod-eq_of_lt}
use native.Mathlib.Omega.{arith}
use lib.Arith.{digits_div, digits_mod}
use lib.Dec.{T}
use lib.ListN.{length, get_or}
use lib.Seq.{ext_get_or}
use Rattle.base.specs.Tables.{cell, RowBy, TableBy, every, by_rule}
use Rattle.base.proofs.Tables.{table_by, row_by, each-entry}
use Rattle.lookups.specs.Rules.{DeviceRule, OutcomesOf, WorksOut}
use Rattle.lookups.specs.Lookup.{filled, EqualsRule}
use Rattle.lookups.proofs.Rules.{one-mask}

module _ {d : DeviceRule} {f : ℕ → ℕ → ℕ} (works : WorksOut d f) where
  pub rule_to_table : {not-empty : ℕ} {table : List ℕ} → length table ≡ d.n * d.m → T (every (by_rule d.m f) 0 table) → filled table ≡ not-empty
      → EqualsRule d not-empty table
  unfolding cell
  rule_to_table {table = table} size test count =
      record {
        size = size;
        masks = λ s k hs hk. subst⁻¹ (OutcomesOf d s k) ((table_by {rule = f} size test).entries s k hs hk) (works s k hs hk);
        count = count;
      }

  -- at each entry the function gives the table's mask
  pub table_function : {not-empty : ℕ} {table : List ℕ} → EqualsRule d not-empty table → TableBy d.n d.m f table
  unfolding cell
  table_function e = record { size = e.size; entries = λ s k hs hk. one-mask (e.masks s k hs hk) (works s k hs hk) }

  -- the row that is read for state s, from the place of the state j that s is
  pub row_read : (d.n ≤ 64) × (d.m ≤ 16) → {not-empty s j : ℕ} {table row : List ℕ} → EqualsRule d not-empty table → s % d.n ≡ j
      → (d.m ≤ 16 → j < 64 → RowBy d.m (cell d.m table j) row) → s < d.n → RowBy d.m (f s) row
  row_read (few-states, few-commands) {j = j} e same read h =
      let is : _ ≡ j = sym (mod-eq_of_lt h) ∙ same in
      row_by j (table_function e) h is (read few-commands (omega arith))

-- what the generator prints at entry e, a mask of the rule's outcomes for state e / m and command e % m, is the table's entry e
pub entry-generated : (d : DeviceRule) {not-empty : ℕ} {table : List ℕ} → EqualsRule d not-empty table → (e w : ℕ) → e < d.n * d.m
    → OutcomesOf d (e / d.m) (e % d.m) w → get_or table e 0 ≡ w
entry-generated d {table = table} x e w h o =
    each-entry d.n d.m (λ i. OutcomesOf d (i / d.m) (i % d.m) w → get_or table i 0 ≡ w) at e h o
  where
    at : (s k : ℕ) → s < d.n → k < d.m → OutcomesOf d ((s * d.m + k) / d.m) ((s * d.m + k) % d.m) w → get_or table (s * d.m + k) 0 ≡ w
    at s k hs hk q =
        one-mask (x.masks s k hs hk) (subst₂ (λ (a b : ℕ). OutcomesOf d a b w) (digits_div s hk) (digits_mod s hk) q)

-- no other list is the rule's table
pub table_unique : (d : DeviceRule) {not-empty : ℕ} {a b : List ℕ} → EqualsRule d not-empty a → EqualsRule d not-empty b → a ≡ b
table_unique d {a = a} {b} x y = ext_get_or 0 a b (x.size ∙ sym y.size) at
  where
    at : (i : ℕ) → i < length a → get_or a i 0 ≡ get_or b i 0
    at i h =
        each-entry d.n d.m (λ j. get_or a j 0 ≡ get_or b j 0) (λ s k hs hk. one-mask (x.masks s k hs hk) (y.masks s k hs hk)) i
        (subst (λ (l : ℕ). i < l) x.size h)
