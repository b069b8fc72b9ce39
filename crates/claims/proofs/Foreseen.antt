-- What checking counts and what assembling gives are within the forecast of the same book. Assumes nothing.
use mathlib.Core.Path.{◌≡◌, refl, sym, ap, ◌∙◌}
use mathlib.Core.List.{List}
use Prim.Native.Nat.{ℕ, ◌≤◌}
use native.Mathlib.Omega.{arith}
use lib.ListN.{get_or}
use Rattle.base.specs.Lists.{Bytes}
use Rattle.reversal.specs.Runs.{Run, last}
use Rattle.reversal.specs.Units.{sum_units}
use Rattle.reversal.specs.Answers.{Answer, no-history, no_chain, done}
use Rattle.octets.specs.Le.{bytes_le}
use Rattle.book.specs.Book.{Book, AllowedBook, bytes_of, frame, items_of}
use Rattle.book.specs.Lent.{Lent}
use Rattle.book.proofs.Codes.{refusal_codes}
use Rattle.book.proofs.Unique.{one-book}
use Rattle.runs.specs.RunBytes.{run_bytes}
use Rattle.checker.specs.declared.Checking.{Checking}
use Rattle.checker.specs.declared.Reason.{Reason}
use Rattle.checker.specs.declared.Reason.TheVariants.{NoReversePlan, NotEffective}
use Rattle.checker.specs.Reasons.{code_of}
use Rattle.checker.specs.Checks.{Checks}
use Rattle.checker.proofs.Unique.{zero↔, no_units, units_within, checked-fine}
use Rattle.forecast.specs.declared.Forecasted.{Forecasted}
use Rattle.forecast.specs.Forecasts.{Forecasts, faulty, long, fine}
use Rattle.forecast.proofs.Bounds.{none_exceeds}
use Rattle.assembly.specs.Asked.{Asked}
use Rattle.assembly.specs.declared.Assembly.{Assembly}
use Rattle.assembly.specs.Lent.{LegForm, AllLent}
use Rattle.assembly.specs.Assembles.{Assembles, short, unaccepted, answered}
use Rattle.assembly.specs.Assembles as assembles
use Rattle.assembly.proofs.After.{none-counted}
use Rattle.claims.specs.Claims.{UnitsForeseen}

-- ---- checking
-- the book that was forecast
foreseen_units : {book : List ℕ} {i : ℕ} {q : Forecasted} → Forecasts book i q → q.code ≡ 0
    → (b : Book) × AllowedBook b × (bytes_of b ≡ book) × (q.units ≡ sum_units b.n (items_of b))
foreseen_units {book} (faulty f e) z = absurd (omega (arith, ap (λ (x : Forecasted). x.code) e, refusal_codes book _ _ f))
foreseen_units (long w l e) z = absurd (omega (arith, ap (λ (x : Forecasted). x.code) e))
foreseen_units (fine b a same l m e) z = (b, a, same, ap (λ (x : Forecasted). x.units) e)

pub units_foreseen : {book : List ℕ} {l : Lent} {r : Checking} {l' : Lent} → Bytes book → Checks book l r l' → UnitsForeseen book l r l'
units_foreseen {r = r} h x =
    record {
      equal =
          λ z i q f c.
          let (b, a, same, u) = foreseen_units f c in
          let (enough, (b', ok)) = (zero↔ h x).0 z in
          let e : b' ≡ b = one-book b' b ok.allowed a (ok.bytes ∙ sym same) in
          ap (λ (y : Checking). y.units) (checked-fine h x enough ok).0 ∙ ap (λ (y : Book). sum_units y.n (items_of y)) e ∙ sym u;
      at_most = λ i q f c. let (b, a, same, u) = foreseen_units f c in omega (arith, units_within h x a same);
      none = λ z e t. no_units h x z (go e t);
    }
  where
    go : (r.code ≡ 8 → ⊥) → (r.code ≡ 12 → ⊥) → (why : Reason) → r.code ≡ code_of why → ⊥
    go e t NoReversePlan q = e q
    go e t NotEffective q = t q

-- ---- assembling

-- the bytes of a run tell how many commands it has
commands_at_lem : (u : Run) → get_or (run_bytes u) 4 0 ≡ last u
unfolding frame bytes_le
commands_at_lem u = refl

pub plans_foreseen : {E : Type 0} {form : LegForm E} {ask : Asked} {i : ℕ} {f : Forecasted} {l : AllLent E} {r : Assembly} {l' : AllLent E}
    → Forecasts ask.book i f → f.code ≡ 0 → (u : Run) → run_bytes u ≡ ask.run → last u ≡ i → Assembles form ask l r l'
    → (r.commands ≤ f.plan_bytes) × (r.legs ≤ f.legs)
plans_foreseen {form = form} {ask} {i} {f} {l} {r} {l'} x z u e n y = go y
  where
    none : (r.code ≡ 0 → ⊥) → (r.commands ≤ f.plan_bytes) × (r.legs ≤ f.legs)
    none q = let (c, k, s) = none-counted y q in (omega arith, omega arith)

    code_of_lem : {q : Assembly} → r ≡ q → r.code ≡ q.code
    code_of_lem q = ap (λ (a : Assembly). a.code) q

    at : {a b : Answer} → r ≡ assembles.result_of a → a ≡ b → r ≡ assembles.result_of b
    at p q = p ∙ ap assembles.result_of q

    go : Assembles form ask l r l' → (r.commands ≤ f.plan_bytes) × (r.legs ≤ f.legs)
    go (short a q k) = none (λ c. omega (arith, code_of_lem q))
    go (unaccepted enough c m q k) = none (λ d. m (sym (code_of_lem q) ∙ d))
    go (assembles.faulty enough b k m q w) = none (λ c. omega (arith, code_of_lem q))
    go (answered enough b k v al same a (no-history m q) w) = none (λ c. omega (arith, code_of_lem (at w.result_is q)))
    go (answered enough b k v al same a (no_chain h m o ns s q) w) = none (λ c. omega (arith, code_of_lem (at w.result_is q)))
    go (answered enough b k v al same a (done h m xs best ns s q) w) =
        let p = at w.result_is q in
        let j : last v ≡ i = sym (commands_at_lem v) ∙ ap (λ (t : List ℕ). get_or t 4 0) (same ∙ sym e) ∙ commands_at_lem u ∙ n in
        let (c, g) = none_exceeds x z b k.filled.allowed k.filled.bytes v j xs best.chain in
        (omega (arith, ap (λ (y : Assembly). y.commands) p), omega (arith, ap (λ (y : Assembly). y.legs) p))
