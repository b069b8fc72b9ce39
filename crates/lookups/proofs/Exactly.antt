-- A lookup's answer: refused outside, else the mask; by a row of the rule's table or the table, by the rule worked out, and as 01 words it, which leaves no other
-- answer. Assumes nothing.
use mathlib.Core.Path.{◌≡◌, sym, ap, ◌∙◌}
use mathlib.Core.Bool.{or-true}
use mathlib.Core.List.{List}
use mathlib.Core.Logic.{◌⊎◌, inl, inr, ⊎_elim}
use Prim.Native.Nat.{ℕ, ◌≤◌, ◌<◌}
use native.Mathlib.Decide.{dec_lt}
use native.Mathlib.Omega.{arith}
use borrow.Author.Tests.{le-leb, lt-leb}
use lib.ListN.{get_or}
use Rattle.base.specs.Tests.{pick}
use Rattle.base.specs.Tables.{cell, RowBy}
use Rattle.lookups.specs.declared.LookupResult.{LookupResult}
use Rattle.lookups.specs.Rules.{DeviceRule, WorksOut}
use Rattle.lookups.specs.Lookup.{refusal, found, EqualsRule, Looked}
use Rattle.lookups.specs.Computed.{answer_of, lookup_of}
use Rattle.lookups.proofs.Rules.{one-mask}
use Rattle.lookups.proofs.Tables.{table_function}

module _ (n m s k w : ℕ) where
  pub no_state : n ≤ s → refusal ≡ answer_of n m s k w
  unfolding pick answer_of
  no_state h = rw (le-leb n s h)

  pub no_command : m ≤ k → refusal ≡ answer_of n m s k w
  unfolding pick answer_of
  no_command h = rw (le-leb m k h, or-true)

  pub mask-found : s < n → k < m → found w ≡ answer_of n m s k w
  unfolding pick answer_of
  mask-found a b = rw (lt-leb n s a, lt-leb m k b)

-- the answer speaks of the mask only where there is one
answer-same : (n m s k : ℕ) {v w : ℕ} → (s < n → k < m → v ≡ w) → answer_of n m s k v ≡ answer_of n m s k w
answer-same n m s k {v} {w} e = go (dec_lt s n) (dec_lt k m)
  where
    go : Dec (s < n) → Dec (k < m) → answer_of n m s k v ≡ answer_of n m s k w
    go (yes a) (yes b) = ap (answer_of n m s k) (e a b)
    go (no a) b = sym (no_state n m s k v (omega arith)) ∙ no_state n m s k w (omega arith)
    go (yes a) (no b) = sym (no_command n m s k v (omega arith)) ∙ no_command n m s k w (omega arith)

-- from a row of the rule's table to the lookup
pub row_lookup : (d : DeviceRule) (f : ℕ → ℕ → ℕ) (s k : ℕ) {row : List ℕ} → (s < d.n → RowBy d.m (f s) row)
    → answer_of d.n d.m s k (get_or row k 0) ≡ lookup_of d f s k
row_lookup d f s k r = answer-same d.n d.m s k (λ a b. (r a).entries k b)

-- from the rule's table itself
pub table_lookup : {d : DeviceRule} {f : ℕ → ℕ → ℕ} → WorksOut d f → {not-empty : ℕ} {table : List ℕ} → EqualsRule d not-empty table → (s k : ℕ)
    → answer_of d.n d.m s k (cell d.m table s k) ≡ lookup_of d f s k
table_lookup {d} works e s k = answer-same d.n d.m s k (λ a b. (table_function works e).entries s k a b)

-- the computed answer is the one that 01 words
pub looked : {d : DeviceRule} {f : ℕ → ℕ → ℕ} → WorksOut d f → (s k : ℕ) (r : LookupResult) → r ≡ lookup_of d f s k → Looked d s k r
looked {d} {f} works s k r e =
    record {
      outside = λ o. e ∙ sym (⊎_elim (no_state d.n d.m s k (f s k)) (no_command d.n d.m s k (f s k)) o);
      inside = λ a b. (f s k, works s k a b, e ∙ sym (mask-found d.n d.m s k (f s k) a b));
    }

-- no other result is the one that 01 words
pub looked_unique : (d : DeviceRule) (s k : ℕ) (r q : LookupResult) → Looked d s k r → Looked d s k q → r ≡ q
looked_unique d s k r q a b = go (dec_lt s d.n) (dec_lt k d.m)
  where
    refused : (d.n ≤ s) ⊎ (d.m ≤ k) → r ≡ q
    refused o = a.outside o ∙ sym (b.outside o)

    accepted : s < d.n → k < d.m → r ≡ q
    accepted u v =
        let (w, o, e) = a.inside u v in
        let (w', o', e') = b.inside u v in
        e ∙ (ap found (one-mask o o') ∙ sym e')

    go : Dec (s < d.n) → Dec (k < d.m) → r ≡ q
    go (yes h) (yes l) = accepted h l
    go (no h) l = refused (inl (omega arith))
    go (yes h) (no l) = refused (inr (omega arith))
