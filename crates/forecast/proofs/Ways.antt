-- The ways through a forecast, for the contract and for the definitions alike. Assumes nothing.
use mathlib.Core.Path.{◌≡◌, refl, sym, ap₂, ◌∙◌}
use mathlib.Core.List.{List}
use Prim.Native.Nat.{ℕ, ◌*◌, ◌≤◌, ◌<◌}
use Rattle.base.specs.Lists.{Bytes}
use Rattle.base.proofs.Picks.{less_yes, less_no}
use Rattle.reversal.specs.Computed.Units.{largest_from}
use Rattle.std.specs.Prelude.{Ok as On, Err}
use Rattle.book.specs.declared.fault.FaultAt.{FaultAt}
use Rattle.book.specs.Faults.{code_of}
use Rattle.book.specs.Book.{Book, items_of}
use Rattle.book.specs.Parse.{cut, scan, at_start, parse}
use Rattle.book.specs.Parse.Parsed.{Ok, Refused}
use Rattle.reader.specs.declared.Sums.{Sums}
use Rattle.reader.specs.Summing.{SumsOf}
use Rattle.reader.proofs.Filling.{found, refused}
use Rattle.forecast.specs.declared.Forecasted.{Forecasted}
use Rattle.forecast.specs.Forecasts.{refusal, foreseen}
use Rattle.forecast.specs.Contract.{forecast_of, forecast_by, ForecastAs}

module _ (b : Book) (i : ℕ) where
  pub when_long : 32 < i → forecast_of b i ≡ refusal 9 0
  unfolding forecast_of
  when_long h = sym (less_yes _ _ _ 32 i h refl)

  pub when_fine : i ≤ 32 → forecast_of b i ≡ foreseen b i (largest_from 0 (items_of b))
  unfolding forecast_of
  when_fine h = sym (less_no _ _ _ 32 i h refl)

module _ (s : List ℕ) (i : ℕ) where
  pub when_faulty : (code place : ℕ) → parse s ≡ Refused code place → forecast_by s i ≡ refusal code place
  unfolding forecast_by
  when_faulty code place e = rw e

  pub when_read : (b : Book) → parse s ≡ Ok b → forecast_by s i ≡ forecast_of b i
  unfolding forecast_by
  when_read b e = rw e

  -- ---- the contract, way by way
  module _ (bytes : Bytes s) where
    pub as_faulty : (f : FaultAt) → Err f ≡ scan (cut s) 0 at_start → (r : Forecasted) → r ≡ refusal (code_of f.fault) f.place → ForecastAs s i r
    as_faulty f e r q = record { bytes = bytes; result = q ∙ sym (when_faulty (code_of f.fault) f.place (refused s f (sym e))) }

    module _ (x : Sums) (e : On x.end ≡ scan (cut s) 0 at_start) where
      pub as_long : 32 < i → (r : Forecasted) → r ≡ refusal 9 0 → ForecastAs s i r
      as_long h r q = let f = found s x.end bytes (sym e) in record { bytes = bytes; result = q ∙ sym (when_read f.book f.parsed ∙ when_long f.book i h) }

      pub as_fine : SumsOf s x → i ≤ 32 → ForecastAs s i (record { code = 0; place = 0; units = x.units; plan_bytes = i * x.longest; legs = i })
      as_fine c h =
          let f = found s x.end bytes (sym e) in
          let u = c.units_are f.book f.allowed f.bytes in
          let l = c.longest_is f.book f.allowed f.bytes in
          record {
            bytes = bytes;
            result =
                ap₂ (λ (units most : ℕ). record { code = 0; place = 0; units = units; plan_bytes = i * most; legs = i }) u l
                ∙ sym (when_read f.book f.parsed ∙ when_fine f.book i h);
          }
