-- A run's record, part by part, and what is written taken out again. Assumes nothing.
use mathlib.Core.Path.{◌≡◌, refl, sym, ap, ◌∙◌}
use mathlib.Core.List.{List, [], ◌∷◌, ◌++◌, append_assoc}
use Prim.Native.Nat.{ℕ, suc, ◌+◌, ◌*◌, ◌^◌, ◌≤◌, ◌<◌}
use native.Mathlib.Omega.{arith}
use lib.ListN.{length, get_or, take, length-append}
use lib.Seq.{sets, sets-eq, take_at, length-take-le}
use Rattle.base.specs.Lists.{Each}
use Rattle.base.proofs.Parts.{each_take}
use Rattle.base.proofs.Picks.{tests}
use Rattle.octets.specs.Le.{bytes_le}
use Rattle.octets.specs.Parts.{piece}
use Rattle.octets.proofs.Le.{length-bytes_le, byte_one}
use Rattle.octets.proofs.Put.{length-piece, piece-take, first, then}
use Rattle.octets.proofs.Turns.{Turns}
use Rattle.book.specs.Book.{frame}
use Rattle.runs.specs.RunBytes.{masks_bytes, run_rec, run_bytes}
use Rattle.runs.specs.Computed.{run_of}
use Rattle.runs.specs.Writes.{run_from, if_written}
use Rattle.runs.proofs.Bytes.{length_run, bytes_of_run}

-- the percepts, eight bytes each
pub percept_rows : (ws : List ℕ) → Turns (λ j. bytes_le 8 (get_or ws j 0)) (λ k j. masks_bytes (piece k ws j))
unfolding masks_bytes piece
percept_rows ws = record { none = λ j. refl; more = λ k j. refl }

module _ (i : ℕ) (commands percepts : List ℕ) (few : i ≤ 32) (known : i ≤ length commands) (seen : i < length percepts) where
  abbrev run : List ℕ
  run = run_bytes (run_from i commands percepts)

  points : length (take i commands) ≡ i
  points = length-take-le i commands known

  body-length : length (run_rec (run_from i commands percepts)).body ≡ 9 + 9 * i
  body-length = length_run (run_from i commands percepts) (length-take-le (suc i) percepts (omega arith) ∙ ap suc (sym points)) ∙ rw points

  -- the record's parts, in the order in which they are stored
  parts : bytes_le 2 (9 + 9 * i) ++ bytes_le 2 4 ++ (i ∷ []) ++ piece i commands 0 ++ masks_bytes (piece (i + 1) percepts 0) ≡ run
  unfolding frame
  parts =
      let e : i + 1 ≡ suc i = omega arith in
      rw (e, piece-take i commands 0 (omega arith), piece-take (suc i) percepts 0 (omega arith), body-length, points) (simp append_assoc)

  pub run-written : (d₀ d₁ d₂ d₃ d₄ d₅ : List ℕ) → d₁ ≡ sets d₀ 0 (bytes_le 2 (9 + 9 * i)) → d₂ ≡ sets d₁ 2 (bytes_le 2 4)
      → d₃ ≡ sets d₂ 4 (bytes_le 1 i) → d₄ ≡ sets d₃ 5 (piece i commands 0)
      → d₅ ≡ sets d₄ (5 + i) (masks_bytes (piece (i + 1) percepts 0)) → d₅ ≡ sets d₀ 0 run
  run-written d₀ d₁ d₂ d₃ d₄ d₅ e₁ e₂ e₃ e₄ e₅ =
      let head = bytes_le 2 (9 + 9 * i) in
      let a = length-bytes_le 2 (9 + 9 * i) in
      let b = length-bytes_le 2 4 in
      let l₂ = length-append head (bytes_le 2 4) in
      let l₃ = length-append (head ++ bytes_le 2 4) (i ∷ []) in
      let l₄ = length-append (head ++ bytes_le 2 4 ++ (i ∷ [])) (piece i commands 0) in
      let w₂ = then (first d₀ 0 head e₁) 2 (bytes_le 2 4) (omega arith) e₂ in
      let w₃ = then w₂ 4 (i ∷ []) (omega arith) (rw (byte_one i (omega arith)) at e₃) in
      let w₄ = then w₃ 5 (piece i commands 0) (omega arith) e₄ in
      let w₅ = then w₄ (5 + i) (masks_bytes (piece (i + 1) percepts 0)) (omega (arith, length-piece i commands 0)) e₅ in
      w₅.is ∙ ap (λ (x : List ℕ). sets d₀ 0 x) parts

  pub length-written : 13 + 9 * i ≡ length run
  unfolding frame
  length-written =
      let b = (run_rec (run_from i commands percepts)).body in
      omega (
        arith,
        length-append (bytes_le 2 (length b)) (bytes_le 2 4 ++ b),
        length-append (bytes_le 2 4) b,
        length-bytes_le 2 (length b),
        length-bytes_le 2 4,
        body-length,
      )

  pub fine-written : {A : Type 0} (v none : A) (out : List ℕ) → 301 ≤ length out → {fine : A} → v ≡ fine → v ≡ if_written i commands percepts out none fine
  unfolding if_written
  fine-written v none out room e = search tests depth 6

  -- what is written, taken out again
  pub written_back : (out : List ℕ) → 301 ≤ length out → Each (λ w. w < 256 ^ 8) percepts
      → run_of (take (13 + 9 * i) (sets out 0 run)) ≡ run_from i commands percepts
  written_back out room h =
      let p = length-written in
      let e : take (13 + 9 * i) (sets out 0 run) ≡ run = rw (sets-eq run out 0 (omega arith)) (take_at run _ (13 + 9 * i) (sym p)) in
      ap run_of e ∙ bytes_of_run (run_from i commands percepts) (length-take-le (suc i) percepts (omega arith) ∙ ap suc (sym points))
      (each_take (λ w. w < 256 ^ 8) (suc i) percepts h)
