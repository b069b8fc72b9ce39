-- What a forecast answers (02, request 6), for the reader. Assumes nothing: these are definitions.
use Rattle.std.specs.Prelude.{◌≡◌, List, ℕ, ◌*◌, ◌≤◌, ◌<◌}
use Rattle.reversal.specs.Units.{sum_units, LargestReverse}
use Rattle.book.specs.Book.{Book, AllowedBook, bytes_of, WellFormed, items_of}
use Rattle.book.specs.Refusal.{Refusal}
use Rattle.forecast.specs.declared.Forecasted.{Forecasted}

-- a code and its place; no forecast is given, so the three numbers are 0
abbrev pub refusal : ℕ → ℕ → Forecasted
refusal code place = record { code = code; place = place; units = 0; plan_bytes = 0; legs = 0 }

-- 02: "the sum over items of (states in psi) × (k + r)"; "plan bytes and legs that no run of i commands exceeds: i × the largest r (0 without items),
-- and i"
abbrev pub foreseen : Book → ℕ → ℕ → Forecasted
foreseen b i most = record { code = 0; place = 0; units = sum_units b.n (items_of b); plan_bytes = i * most; legs = i }

-- of a book's bytes and i
pub data Forecasts (book : List ℕ) (i : ℕ) (result : Forecasted) : Type 0 where
  -- reading's codes, with reading's place
  faulty : {code place : ℕ} → Refusal book code place → result ≡ refusal code place → Forecasts book i result
  -- 02: "an i above 32 is 9, after reading's codes"
  long : WellFormed book → 32 < i → result ≡ refusal 9 0 → Forecasts book i result
  -- 02: "for any well-formed book"
  fine : (b : Book) → AllowedBook b → bytes_of b ≡ book → i ≤ 32 → {most : ℕ} → LargestReverse (items_of b) most → result ≡ foreseen b i most
      → Forecasts book i result
