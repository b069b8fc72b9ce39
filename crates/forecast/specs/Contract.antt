-- What a forecast answers, computed. proofs/Exactly ties it to the definitions of 02. Assumes nothing: these are definitions.
use Rattle.std.specs.Prelude.{◌≡◌, List, ℕ}
use Rattle.base.specs.Lists.{Bytes}
use Rattle.base.specs.Tests.{pick}
use Rattle.base.specs.Compare.{less}
use Rattle.reversal.specs.Computed.Units.{largest_from}
use Rattle.book.specs.Book.{Book, items_of}
use Rattle.book.specs.Parse.{parse}
use Rattle.reader.specs.Contract.{on_parsed}
use Rattle.forecast.specs.declared.Forecasted.{Forecasted}
use Rattle.forecast.specs.Forecasts.{refusal, foreseen}

-- of a well-formed book
unfoldable pub forecast_of : Book → ℕ → Forecasted
forecast_of b i = pick (less 32 i) (refusal 9 0) (foreseen b i (largest_from 0 (items_of b)))

unfoldable pub forecast_by : List ℕ → ℕ → Forecasted
forecast_by s i = on_parsed (parse s) refusal (λ b. forecast_of b i)

-- the contract of `forecast`: book s and number i at entry, result r
pub record ForecastAs (s : List ℕ) (i : ℕ) (r : Forecasted) : Type 0 where
  pub bytes : Bytes s
  pub result : r ≡ forecast_by s i
