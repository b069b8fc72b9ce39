-- The contract of a forecast gives what 02 says. Assumes nothing.
use mathlib.Core.Path.{◌≡◌, refl, ◌∙◌}
use mathlib.Core.Bool.{Bool, true, false}
use mathlib.Core.List.{List}
use Prim.Native.Nat.{ℕ}
use Rattle.base.specs.Compare.{less}
use Rattle.base.proofs.Compare.{less_on, less_off}
use Rattle.reversal.proofs.Sizes.{largest-is}
use Rattle.book.specs.Book.{items_of}
use Rattle.book.specs.Parse.{Parsed, parse}
use Rattle.book.specs.Parse.Parsed.{Ok, Refused}
use Rattle.book.proofs.Reading.{parse-fine}
use Rattle.book.proofs.Refused.{refused_exactly}
use Rattle.forecast.specs.declared.Forecasted.{Forecasted}
use Rattle.forecast.specs.Forecasts.{Forecasts, faulty, long, fine}
use Rattle.forecast.specs.Contract.{ForecastAs}
use Rattle.forecast.proofs.Ways.{when_long, when_fine, when_faulty, when_read}

pub forecasts : {s : List ℕ} {i : ℕ} {r : Forecasted} → ForecastAs s i r → Forecasts s i r
forecasts {s} {i} {r} c = go (parse s) refl (less 32 i) refl
  where
    go : (p : Parsed) → parse s ≡ p → (t : Bool) → less 32 i ≡ t → Forecasts s i r
    go (Refused code place) e t q =
        faulty ((refused_exactly s code place c.bytes).0 e) (c.result ∙ when_faulty s i code place e)
    go (Ok b) e true q =
        let h = less_on 32 i q in
        let (a, same) = parse-fine s b c.bytes e in
        long (b, a, same) h (c.result ∙ when_read s i b e ∙ when_long b i h)
    go (Ok b) e false q =
        let h = less_off 32 i q in
        let (a, same) = parse-fine s b c.bytes e in
        fine b a same h (largest-is (items_of b)) (c.result ∙ when_read s i b e ∙ when_fine b i h)
