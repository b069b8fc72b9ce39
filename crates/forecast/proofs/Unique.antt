-- What 02 says of a forecast leaves one answer only; it is code 0 exactly for a well-formed book and an i of at most 32, and its other codes are
-- reading's and 9, with three zeros. Assumes nothing.
use mathlib.Core.Path.{◌≡◌, sym, ap, ap₂, ◌∙◌}
use mathlib.Core.Logic.{◌⊎◌, inl, inr, ◌↔◌}
use mathlib.Core.List.{List}
use Prim.Native.Nat.{ℕ, ◌≤◌}
use native.Mathlib.Omega.{arith}
use Rattle.base.specs.Lists.{Bytes}
use Rattle.reversal.proofs.Sizes.{largest_unique}
use Rattle.book.specs.Book.{Book, WellFormed}
use Rattle.book.proofs.Codes.{ReadCode, refusal_codes}
use Rattle.book.proofs.Unique.{one-book, one-refusal, not-refused}
use Rattle.forecast.specs.declared.Forecasted.{Forecasted}
use Rattle.forecast.specs.Forecasts.{refusal, foreseen, Forecasts, faulty, long, fine}

code_of_lem : {r q : Forecasted} → r ≡ q → r.code ≡ q.code
code_of_lem e = ap (λ (x : Forecasted). x.code) e

module _ {s : List ℕ} {i : ℕ} {r : Forecasted} (h : Bytes s) where
  pub forecasts_unique : {q : Forecasted} → Forecasts s i r → Forecasts s i q → r ≡ q
  forecasts_unique (faulty f e) (faulty g k) = let (c, p) = one-refusal s h f g in e ∙ ap₂ refusal c p ∙ sym k
  forecasts_unique (faulty f e) (long (b, a, same) l k) = absurd (not-refused s h f b a same)
  forecasts_unique (faulty f e) (fine b a same l m k) = absurd (not-refused s h f b a same)
  forecasts_unique (long (b, a, same) l e) (faulty g k) = absurd (not-refused s h g b a same)
  forecasts_unique (long w l e) (long v n k) = e ∙ sym k
  forecasts_unique (long w l e) (fine b a same n m k) = absurd (omega arith)
  forecasts_unique (fine b a same l m e) (faulty g k) = absurd (not-refused s h g b a same)
  forecasts_unique (fine b a same l m e) (long w n k) = absurd (omega arith)
  forecasts_unique (fine b a same l {most = most} m e) (fine b' a' same' n {most = most'} m' k) =
      let x : b' ≡ b = one-book b' b a' a (same' ∙ sym same) in
      let y : most' ≡ most = largest_unique (rw x at m') m in
      e ∙ sym (k ∙ ap₂ (λ (z : Book) (w : ℕ). foreseen z i w) x y)

  -- code 0 exactly for the bytes of some allowed book and an i of at most 32
  pub zero↔ : Forecasts s i r → (r.code ≡ 0) ↔ (WellFormed s × (i ≤ 32))
  zero↔ f = (forth f, back f)
    where
      forth : Forecasts s i r → r.code ≡ 0 → WellFormed s × (i ≤ 32)
      forth (faulty g e) z = absurd (omega (arith, code_of_lem e, refusal_codes s _ _ g))
      forth (long w l e) z = absurd (omega (arith, code_of_lem e))
      forth (fine b a same l m e) z = ((b, a, same), l)

      back : Forecasts s i r → WellFormed s × (i ≤ 32) → r.code ≡ 0
      back (faulty g e) ((b, a, same), l) = absurd (not-refused s h g b a same)
      back (long w l e) (v, n) = absurd (omega arith)
      back (fine b a same l m e) w = code_of_lem e

module _ {s : List ℕ} {i : ℕ} {r : Forecasted} where
  -- 0, reading's codes 2 to 7 and 13, and 9
  forecast_codes : Forecasts s i r → (r.code ≡ 0) ⊎ ((2 ≤ r.code) × ReadCode r.code) ⊎ (r.code ≡ 9)
  forecast_codes (faulty {code} {place} g e) = inr (inl (rw (code_of_lem e) (refusal_codes s code place g)))
  forecast_codes (long w l e) = inr (inr (code_of_lem e))
  forecast_codes (fine b a same l m e) = inl (code_of_lem e)

  -- no buffer is lent and no item is judged
  pub never : Forecasts s i r → (r.code ≡ 1 → ⊥) × (r.code ≡ 8 → ⊥) × (r.code ≡ 12 → ⊥)
  never f = go (forecast_codes f)
    where
      go : (r.code ≡ 0) ⊎ ((2 ≤ r.code) × ReadCode r.code) ⊎ (r.code ≡ 9) → (r.code ≡ 1 → ⊥) × (r.code ≡ 8 → ⊥) × (r.code ≡ 12 → ⊥)
      go (inl z) = ((λ e. omega arith), (λ e. omega arith), λ e. omega arith)
      go (inr (inl (l, inl h))) = ((λ e. omega arith), (λ e. omega arith), λ e. omega arith)
      go (inr (inl (l, inr h))) = ((λ e. omega arith), (λ e. omega arith), λ e. omega arith)
      go (inr (inr z)) = ((λ e. omega arith), (λ e. omega arith), λ e. omega arith)

  -- on a refusal the three numbers are 0
  pub refused-zeros : Forecasts s i r → (r.code ≡ 0 → ⊥) → (r.units ≡ 0) × (r.plan_bytes ≡ 0) × (r.legs ≡ 0)
  refused-zeros f n = go f
    where
      zeros : {code place : ℕ} → r ≡ refusal code place → (r.units ≡ 0) × (r.plan_bytes ≡ 0) × (r.legs ≡ 0)
      zeros e = (ap (λ (x : Forecasted). x.units) e, ap (λ (x : Forecasted). x.plan_bytes) e, ap (λ (x : Forecasted). x.legs) e)

      go : Forecasts s i r → (r.units ≡ 0) × (r.plan_bytes ≡ 0) × (r.legs ≡ 0)
      go (faulty g e) = zeros e
      go (long w l e) = zeros e
      go (fine b a same l m e) = absurd (n (code_of_lem e))
