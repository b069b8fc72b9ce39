-- 02: "The forecast never exceeds 65,536", which one book reaches; and no run of i commands exceeds its plan bytes and legs. Assumes nothing.
use mathlib.Core.Path.{◌≡◌, refl, sym, ap, ◌∙◌}
use mathlib.Core.Logic.{inr}
use mathlib.Core.List.{List, [], ◌∷◌}
use Prim.Native.Nat.{ℕ, zero, suc, ◌-◌, ◌*◌, ◌^◌, ◌≤◌, ◌<◌}
use native.Mathlib.Omega.{arith}
use lib.Count.{ones-ones}
use lib.Dec.{lit<, lit≤}
use lib.ListN.{length, replicate, length-replicate}
use Rattle.base.specs.Cardinality.{cardinality}
use Rattle.base.specs.Masks.{clear_from}
use Rattle.base.proofs.Parts.{each-replicate}
use Rattle.base.proofs.Masks.{in_zero}
use Rattle.base.proofs.Present.{cardinality-ones}
use Rattle.reversal.specs.Reversal.{Item, AllowedItem}
use Rattle.reversal.specs.Runs.{Run, last}
use Rattle.reversal.specs.Chains.{Chain, plan_of}
use Rattle.reversal.specs.Units.{sum_units, LargestReverse}
use Rattle.reversal.proofs.Units.{sum_bound}
use Rattle.reversal.proofs.Sizes.{legs-within, plan-within}
use Rattle.book.specs.Book.{Book, device_of, AllowedBook, bytes_of, items_of, items_for}
use Rattle.book.proofs.Codes.{refusal_codes}
use Rattle.book.proofs.Fields.{clear_on}
use Rattle.book.proofs.Unique.{one-book}
use Rattle.forecast.specs.declared.Forecasted.{Forecasted}
use Rattle.forecast.specs.Forecasts.{foreseen, Forecasts, faulty, long, fine}

-- ---- the units
pub units_bound : {s : List ℕ} {i : ℕ} {r : Forecasted} → Forecasts s i r → r.units ≤ 65536
units_bound (faulty f e) = omega (arith, ap (λ (x : Forecasted). x.units) e)
units_bound (long w l e) = omega (arith, ap (λ (x : Forecasted). x.units) e)
units_bound (fine b a same l m e) =
    omega (arith, ap (λ (x : Forecasted). x.units) e, sum_bound b.n (device_of b) (items_of b) a.device.n_high a.each_item, a.few)

-- 64 items of 8 forward and 8 reverse commands, each with all 64 states for starts
abbrev item : Item
item = record { forward = replicate 8 0; reverse = replicate 8 0; phi = 0; psi = 2 ^ 64 - 1 }

abbrev full : Book
full = record { n = 64; m = 1; weights = 1 ∷ []; moves = []; items = replicate 64 item }

full-item : AllowedItem (device_of full) item
unfolding clear_from
full-item =
    record {
      some = lit≤ tt;
      most = lit≤ tt;
      reverse_most = lit≤ tt;
      forward_commands = each-replicate (λ c. c < 1) 8 (omega arith);
      reverse_commands = each-replicate (λ c. c < 1) 8 (omega arith);
      phi_states = λ s q. absurd (in_zero s q);
      psi_states = clear_on 64 (2 ^ 64 - 1) refl;
    }

full-allowed : AllowedBook full
full-allowed =
    record {
      device = record { n_low = omega arith; n_high = omega arith; m_low = omega arith; m_high = omega arith };
      weighed = record { count = refl; each = (record { low = omega arith; high = omega arith }, tt) };
      each_move = tt;
      rising = tt;
      each_item = each-replicate (AllowedItem (device_of full)) 64 full-item;
      few = omega (arith, length-replicate 64 item);
    }

all-starts : cardinality 64 (2 ^ 64 - 1) ≡ 64
all-starts = cardinality-ones 64 (2 ^ 64 - 1) (lit< tt) ∙ ones-ones 64

full_units : (k : ℕ) → sum_units 64 (replicate k item) ≡ 1024 * k
full_units zero = refl
full_units (suc k) = rw all-starts (omega (arith, full_units k))

full-largest : LargestReverse (items_of full) 8
full-largest = record { none_above = each-replicate (λ (x : Item). length x.reverse ≤ 8) 64 {x = item} (lit≤ tt); reached = inr (0, lit< tt, refl) }

pub units_reached : (b : Book) × AllowedBook b × Forecasts (bytes_of b) 32 (record { code = 0; place = 0; units = 65536; plan_bytes = 256; legs = 32 })
units_reached =
    (full, full-allowed, fine full full-allowed refl (lit≤ tt) full-largest (ap (λ (u : ℕ). record { code = 0; place = 0; units = u; plan_bytes = 256; legs = 32 }) (sym (full_units 64))))

-- ---- plan bytes and legs: of every run of i commands, every chain from its last point
pub none_exceeds : {s : List ℕ} {i : ℕ} {r : Forecasted} → Forecasts s i r → r.code ≡ 0 → (b : Book) → AllowedBook b → bytes_of b ≡ s
    → (u : Run) → last u ≡ i → (xs : List ℕ) → Chain (device_of b) u (items_for b) (last u) xs
    → (length (plan_of (items_for b) xs) ≤ r.plan_bytes) × (length xs ≤ r.legs)
none_exceeds {s} {i} {r} f z b a same u e xs c = go f
  where
    within : {b' : Book} {most : ℕ} → b' ≡ b → LargestReverse (items_of b') most → r ≡ foreseen b' i most
        → (length (plan_of (items_for b) xs) ≤ r.plan_bytes) × (length xs ≤ r.legs)
    within {most = most} x m q =
        let n = rw x at m.none_above in
        let j : i * most ≡ last u * most = rw e in (
          omega (
            arith,
            plan-within (device_of b) u (items_for b) a.each_item most n xs (last u) c,
            ap (λ (x : Forecasted). x.plan_bytes) q,
            j,
          ),
          omega (arith, legs-within (device_of b) u (items_for b) a.each_item xs (last u) c, ap (λ (x : Forecasted). x.legs) q),
        )

    go : Forecasts s i r → (length (plan_of (items_for b) xs) ≤ r.plan_bytes) × (length xs ≤ r.legs)
    go (faulty g q) = absurd (omega (arith, ap (λ (x : Forecasted). x.code) q, refusal_codes s _ _ g))
    go (long w l q) = absurd (omega (arith, ap (λ (x : Forecasted). x.code) q))
    go (fine b' a' same' l m q) = within (one-book b' b a' a (same' ∙ sym same)) m q
