-- Laws of the reader's steps, over plain variables. Assumes nothing.
use mathlib.Core.Path.{◌≡◌, refl, sym, ap, ◌∙◌}
use mathlib.Core.Bool.{true, false, not}
use mathlib.Core.List.{List}
use Rattle.std.specs.Prelude.{Result, Ok, Err}
use Prim.Native.Nat.{ℕ, ◌+◌, ◌-◌, ◌*◌, ◌≤◌, ◌<◌}
use native.Mathlib.Nat.{mul-le-mul}
use native.Mathlib.Omega.{arith}
use lib.ListN.{length, get_or, take, drop}
use lib.Seq.{drop-drop}
use Rattle.octets.specs.Parts.{le, le_at}
use Rattle.base.proofs.Picks.{tests}
use Rattle.book.specs.declared.kind.Kind.{Kind}
use Rattle.book.specs.declared.kind.Kind.TheVariants.{MoveRecord}
use Rattle.book.specs.declared.kind.UnknownKind.{UnknownKind}
use Rattle.book.specs.declared.fault.Fault.TheVariants.{WrongKind}
use Rattle.book.specs.declared.State.{State}
use Rattle.book.specs.declared.phase.Phase.TheVariants.{AtMoves}
use Rattle.book.specs.Limits.{move_fine, move_with, item_with}
use Rattle.book.specs.Parse.{allows, Step, kind_of, move_of, item_of, judged_as, judged, step}
use Rattle.reader.specs.Judged.{Counted, rec}

-- a move's index is small
pub index-small : (state m command : ℕ) → state < 256 → m < 256 → command < 256 → (state * m ≤ 65025) × (state * m + command < 65281)
index-small state m command hs hm hc =
    let l : state * m ≤ 255 * 255 = mul-le-mul {n₂ = 255} {m₂ = 255} (omega arith) (omega arith) in (omega arith, omega arith)

-- ---- a move
module _ (st : State) (body : List ℕ) (state command mask : ℕ) (es : state ≡ get_or body 0 0) (ec : command ≡ get_or body 1 0) (em : mask ≡ le_at 8 body 2) where
  move-is : move_of body ≡ move_with state command mask
  unfolding move_of
  move-is = rw (es, ec, em)

  -- every test is passed
  pub move_goes : allows st.phase MoveRecord ≡ true → length body ≡ 10 → move_fine st.n st.m (move_with state command mask) ≡ true → st.low ≤ state * st.m + command
      → Ok (record { phase = AtMoves; n = st.n; m = st.m; low = state * st.m + command + 1; items = st.items }) ≡ judged_as MoveRecord st body
  move_goes p l f r =
      let a : not (allows st.phase MoveRecord) ≡ false = ap not p in
      let g : not (move_fine st.n st.m (move_with state command mask)) ≡ false = ap not f in
      rw move-is (search tests depth 20)

-- ---- the fields of an item's body
module _ (body : List ℕ) (k r : ℕ) (ok : Counted body k r) where
  forward-is : take (2 + k - 2) (drop 2 body) ≡ (item_of body).forward
  unfolding item_of
  forward-is = let e : 2 + k - 2 ≡ get_or body 0 0 = omega (arith, ok.k_is) in rw e

  reverse-is : take (2 + k + r - (2 + k)) (drop (2 + k) body) ≡ (item_of body).reverse
  unfolding item_of
  reverse-is =
      let e : 2 + k + r - (2 + k) ≡ get_or body 1 0 = omega (arith, ok.r_is) in
      rw e (ap (take (get_or body 1 0)) (sym (drop-drop k 2 body) ∙ ap (λ (x : ℕ). drop x (drop 2 body)) ok.k_is))

  -- past the commands, and 8 bytes on
  past : drop (2 + k + r) body ≡ drop (get_or body 1 0) (drop (get_or body 0 0) (drop 2 body))
  past =
      sym (drop-drop r (2 + k) body ∙ refl)
      ∙ ap (drop r) (sym (drop-drop k 2 body))
      ∙ rw (← ok.k_is, ← ok.r_is)

  past-phi : drop (10 + k + r) body ≡ drop 8 (drop (get_or body 1 0) (drop (get_or body 0 0) (drop 2 body)))
  past-phi =
      let e : 10 + k + r ≡ 2 + k + r + 8 = omega arith in
      rw e (sym (drop-drop 8 (2 + k + r) body) ∙ ap (drop 8) past)

  phi_is : le_at 8 body (2 + k + r) ≡ (item_of body).phi
  unfolding item_of
  phi_is = ap (λ (t : List ℕ). le (take 8 t)) past

  psi_is : le_at 8 body (10 + k + r) ≡ (item_of body).psi
  unfolding item_of
  psi_is = ap (λ (t : List ℕ). le (take 8 t)) past-phi

  pub item_is : (phi psi : ℕ) → phi ≡ le_at 8 body (2 + k + r) → psi ≡ le_at 8 body (10 + k + r)
      → item_with (take (2 + k - 2) (drop 2 body)) (take (2 + k + r - (2 + k)) (drop (2 + k) body)) phi psi ≡ item_of body
  item_is phi psi p q = rw (forward-is, reverse-is, p, phi_is, q, psi_is)

-- ---- a record by its number
module _ (st : State) (number : ℕ) (body : List ℕ) where
  pub step-unknown : {u : UnknownKind} → Err u ≡ kind_of number → Err WrongKind ≡ step st (rec number body)
  unfolding step
  step-unknown e = ap (λ (y : Result Kind UnknownKind). judged y st body) e

  pub step_of : (j k : Kind) (v : Step) → Ok j ≡ kind_of number → j ≡ k → v ≡ judged_as k st body → v ≡ step st (rec number body)
  unfolding step
  step_of j k v e g h = h ∙ ap (λ (y : Result Kind UnknownKind). judged y st body) (ap Ok (sym g) ∙ e)
