-- What 01 and 02 say of checking leaves one answer only: the result with its units, and the buffers. So it answers 0 exactly on accepted books, and 8
-- or 12 exactly where a book keeps the rules and some item is not accepted, the first such one being at the place, with its own reason.
-- Assumes nothing.
use mathlib.Core.Path.{◌≡◌, refl, sym, ap, ap₂, ◌∙◌, subst, subst₂}
use mathlib.Core.Logic.{inl, inr, ◌↔◌}
use mathlib.Core.List.{List}
use Prim.Native.Nat.{ℕ, suc, ◌+◌, ◌≤◌, ◌<◌}
use native.Mathlib.Omega.{arith}
use lib.ListN.{length, take}
use Rattle.base.specs.Lists.{Bytes}
use Rattle.base.specs.Sizes.{LongEnough}
use Rattle.base.proofs.Lists.{each_at}
use Rattle.base.proofs.Lowest.{one-lowest}
use Rattle.reversal.specs.Device.{Device}
use Rattle.reversal.specs.Reversal.{Item, Accepted}
use Rattle.reversal.specs.Chains.{absent, item}
use Rattle.reversal.specs.Units.{sum_units}
use Rattle.reversal.proofs.Units.{to_failure_unique, to_failure_within, sum-next, sum-front}
use Rattle.book.specs.Book.{Book, device_of, AllowedBook, bytes_of, items_of}
use Rattle.book.specs.Lent.{Lent, sizes}
use Rattle.book.proofs.Codes.{ReadCode, refusal_codes}
use Rattle.book.proofs.Unique.{one-book}
use Rattle.reader.specs.declared.Reading.{Reading}
use Rattle.reader.specs.Reads.{refusal, done, Filled, Reads}
use Rattle.reader.specs.Reads as reads
use Rattle.reader.proofs.Unique.{same-filled, reads_unique, zero↔ as read-zero↔}
use Rattle.checker.specs.declared.Checking.{Checking}
use Rattle.checker.specs.declared.Reason.{Reason}
use Rattle.checker.specs.declared.Reason.TheVariants.{NoReversePlan, NotEffective}
use Rattle.checker.specs.Reasons.{code_of, Due}
use Rattle.checker.specs.Checks.{AllAccepted, AcceptedBook, place_of, FirstWrong, WrongFor, UnitsMade, Checked, with_units, Checks, unread, wrong, fine}
use Rattle.checker.proofs.Inside.{wrong_inside}

one-wrong : (b : Book) {i j : ℕ} → FirstWrong b i → FirstWrong b j → i ≡ j
one-wrong b f g = one-lowest f g

pub none-wrong : (b : Book) {i : ℕ} → FirstWrong b i → AllAccepted b → ⊥
none-wrong b {i} f e = f.wrong (each_at (Accepted (device_of b)) (items_of b) e i absent f.inside)

-- an item has one reason at most, and a code one
due_unique : (d : Device) (x : Item) (why other : Reason) → Due why d x → Due other d x → why ≡ other
due_unique d x NoReversePlan NoReversePlan f g = refl
due_unique d x NoReversePlan NotEffective f g = absurd (f g.reverse_plan)
due_unique d x NotEffective NoReversePlan f g = absurd (g f.reverse_plan)
due_unique d x NotEffective NotEffective f g = refl

same_code : (why other : Reason) → code_of why ≡ code_of other → why ≡ other
same_code NoReversePlan NoReversePlan e = refl
same_code NoReversePlan NotEffective e = absurd (omega arith)
same_code NotEffective NoReversePlan e = absurd (omega arith)
same_code NotEffective NotEffective e = refl

pub over_seven : (why : Reason) → 7 < code_of why
over_seven NoReversePlan = omega arith
over_seven NotEffective = omega arith

-- no reason has a code of reading
no_reading : (why : Reason) → ReadCode (code_of why) → ⊥
no_reading why (inl l) = omega (arith, over_seven why)
no_reading NoReversePlan (inr e) = omega arith
no_reading NotEffective (inr e) = omega arith

-- the first wrong item is one, and so is its reason
pub same-wrong : (b : Book) {i j : ℕ} {why other : Reason} → WrongFor b i why → WrongFor b j other → (i ≡ j) × (why ≡ other)
same-wrong b {i} {j} {why} {other} f g =
    let e : i ≡ j = one-wrong b f.first g.first in
    (e, due_unique (device_of b) (item (items_of b) j) why other (subst (λ (k : ℕ). Due why (device_of b) (item (items_of b) k)) e f.due) g.due)

-- and the units made are one number
pub made_unique : (b : Book) (i : ℕ) (why : Reason) {u v : ℕ} → UnitsMade b i why u → UnitsMade b i why v → u ≡ v
made_unique b i NoReversePlan (h, p, e) (k, q, f) =
    e ∙ ap (λ (x : ℕ). sum_units b.n (take i (items_of b)) + x) (to_failure_unique (device_of b) (item (items_of b) i) p q) ∙ sym f
made_unique b i NotEffective e f = e ∙ sym f

-- 02: "at most the forecast on 8 or 12"
made-within : (b : Book) (i : ℕ) (why : Reason) → i < length (items_of b) → {u : ℕ} → UnitsMade b i why u → u ≤ sum_units b.n (items_of b)
made-within b i NoReversePlan l (h, p, e) =
    omega (
      arith,
      to_failure_within (device_of b) (item (items_of b) i) p,
      sum-next b.n (items_of b) i l,
      sum-front b.n (items_of b) (suc i),
    )
made-within b i NotEffective l e = omega (arith, sum-front b.n (items_of b) (suc i))

read_codes : {book : List ℕ} {l : Lent} {r : Reading} {l' : Lent} → Reads book l r l' → ReadCode r.code
read_codes (reads.short a e k) = inl (omega (arith, ap (λ (x : Reading). x.code) e))
read_codes {book} (reads.faulty l f e k) = subst (λ (x : Reading). ReadCode x.code) (sym e) (refusal_codes book _ _ f).1
read_codes (reads.fine b f e) = inl (omega (arith, ap (λ (x : Reading). x.code) e))

was_read : {book : List ℕ} {l : Lent} {r : Reading} {l' l'' : Lent} {b : Book} → Bytes book → Reads book l r l' → (r.code ≡ 0 → ⊥) → Filled book l b l'' → ⊥
was_read {b = b} h x n f = n ((read-zero↔ h x).1 (f.long, (b, f.allowed, f.bytes)))

this_book : {book : List ℕ} {l l' : Lent} {b b' : Book} → AllowedBook b → bytes_of b ≡ book → Filled book l b' l' → b' ≡ b
this_book {b = b} {b' = b'} a same f = one-book b' b f.allowed a (f.bytes ∙ sym same)

unread-not : {book : List ℕ} {l : Lent} {q : Reading} {l' : Lent} → Bytes book → Reads book l q l' → (q.code ≡ 0 → ⊥) → LongEnough (sizes l)
    → {b : Book} → AllowedBook b → bytes_of b ≡ book → ⊥
unread-not h x n w {b} a same = n ((read-zero↔ h x).1 (w, (b, a, same)))

pub accepted-book : {book : List ℕ} {l : Lent} {b : Book} {l' : Lent} → Checked book l b l' → AcceptedBook book b
accepted-book k = record { allowed = k.filled.allowed; bytes = k.filled.bytes; accepted = k.accepted }

-- the codes that checking answers: "Reading stops after 7", with 02's 13; then the reasons'
pub data CheckCode : ℕ → Type 0 where
  by_reading : {code : ℕ} → ReadCode code → CheckCode code
  by_item : (why : Reason) → CheckCode (code_of why)

pub check_codes : {book : List ℕ} {l : Lent} {r : Checking} {l' : Lent} → Checks book l r l' → CheckCode r.code
check_codes (unread x n e) = rw e (by_reading (read_codes x))
check_codes (wrong b f {why = why} w u e) = rw e (by_item why)
check_codes (fine b k e) = rw e (by_reading {code = 0} (inl (omega arith)))

-- and so never that of assembling's "no chain"
pub not-eleven : {code : ℕ} → CheckCode code → code ≡ 11 → ⊥
not-eleven (by_reading (inl l)) e = omega arith
not-eleven (by_reading (inr l)) e = omega arith
not-eleven (by_item NoReversePlan) e = omega arith
not-eleven (by_item NotEffective) e = omega arith

module _ {book : List ℕ} {l : Lent} {r : Checking} {l' : Lent} (h : Bytes book) where
  pub checks_unique : {q : Checking} {l'' : Lent} → Checks book l r l' → Checks book l q l'' → (r ≡ q) × (l' ≡ l'')
  checks_unique (unread x n e) (unread y n' e') =
      let (q, p) = reads_unique h x y in
      (e ∙ (ap (λ (z : Reading). with_units z 0) q ∙ sym e'), p)
  checks_unique (unread x n e) (wrong b f w u e') = absurd (was_read h x n f)
  checks_unique (unread x n e) (fine b k e') = absurd (was_read h x n k.filled)
  checks_unique (wrong b f w u e) (unread y n e') = absurd (was_read h y n f)
  checks_unique (wrong b f {i} {why} w {units} u e) (wrong b' g {i = j} {why = other} v {units = vnits} t e') =
      let (x, p) = same-filled f g in
      let (y, z) = same-wrong b' (subst (λ (c : Book). WrongFor c i why) x w) v in
      let here : UnitsMade b' j other units = subst₂ (λ (k : ℕ) (c : Reason). UnitsMade b' k c units) y z (subst (λ (c : Book). UnitsMade c i why units) x u) in (
        e
            ∙ (ap (λ (c : Book). with_units (refusal (code_of why) (place_of c i)) units) x
            ∙ (ap₂ (λ (c : Reason) (k : ℕ). with_units (refusal (code_of c) (place_of b' k)) units) z y
            ∙ (ap (with_units (refusal (code_of other) (place_of b' j))) (made_unique b' j other here t) ∙ sym e'))),
        p,
      )
  checks_unique (wrong b f {i} {why} w u e) (fine b' k e') =
      let (x, p) = same-filled f k.filled in
      absurd (none-wrong b' (subst (λ (c : Book). WrongFor c i why) x w).first k.accepted)
  checks_unique (fine b k e) (unread y n e') = absurd (was_read h y n k.filled)
  checks_unique (fine b k e) (wrong b' g {i} {why} w u e') =
      let (x, p) = same-filled g k.filled in
      absurd (none-wrong b (subst (λ (c : Book). WrongFor c i why) x w).first k.accepted)
  checks_unique (fine b k e) (fine b' k' e') =
      let (x, p) = same-filled k.filled k'.filled in
      (e ∙ (ap (λ (c : Book). with_units (done c) (sum_units c.n c.items)) x ∙ sym e'), p)

  -- ---- the answer for a book that is known
  pub checked-fine : Checks book l r l' → LongEnough (sizes l) → {b : Book} → AcceptedBook book b
      → (r ≡ with_units (done b) (sum_units b.n (items_of b))) × Checked book l b l'
  checked-fine (unread x n e) long a = absurd (unread-not h x n long a.allowed a.bytes)
  checked-fine (wrong b' f {i} {why} w u e) long {b} a =
      absurd (none-wrong b (subst (λ (c : Book). WrongFor c i why) (this_book a.allowed a.bytes f) w).first a.accepted)
  checked-fine (fine b' k e) long {b} a =
      let x : b' ≡ b = this_book a.allowed a.bytes k.filled in
      (e ∙ ap (λ (c : Book). with_units (done c) (sum_units c.n c.items)) x, subst (λ (z : Book). Checked book l z l') x k)

  pub checked-wrong : Checks book l r l' → LongEnough (sizes l) → {b : Book} → AllowedBook b → bytes_of b ≡ book → {i : ℕ} {why : Reason} → WrongFor b i why
      → ((units : ℕ) × UnitsMade b i why units × (r ≡ with_units (refusal (code_of why) (place_of b i)) units)) × Filled book l b l'
  checked-wrong (unread x n e) long a same w = absurd (unread-not h x n long a same)
  checked-wrong (wrong b' f {i = j} {why = other} v {units} u e) long {b} a same {i} {why} w =
      let x : b' ≡ b = this_book a same f in
      let (y, z) = same-wrong b (subst (λ (c : Book). WrongFor c j other) x v) w in (
        (
          units,
          subst₂ (λ (k : ℕ) (c : Reason). UnitsMade b k c units) y z (subst (λ (c : Book). UnitsMade c j other units) x u),
          e
              ∙ (ap (λ (c : Book). with_units (refusal (code_of other) (place_of c j)) units) x
              ∙ ap₂ (λ (c : Reason) (k : ℕ). with_units (refusal (code_of c) (place_of b k)) units) z y),
        ),
        subst (λ (c : Book). Filled book l c l') x f,
      )
  checked-wrong (fine b' k e) long {b} a same w =
      absurd (none-wrong b w.first (subst AllAccepted (this_book a same k.filled) k.accepted))

  -- ---- exactly
  module _ (x : Checks book l r l') where
    code_of_lem : {q : Reading} {units : ℕ} → r ≡ with_units q units → r.code ≡ q.code
    code_of_lem e = ap (λ (y : Checking). y.code) e

    pub zero↔ : (r.code ≡ 0) ↔ (LongEnough (sizes l) × ((b : Book) × AcceptedBook book b))
    zero↔ = ((λ z. forth z x), λ (long, (b, a)). code_of_lem (checked-fine x long a).0)
      where
        forth : r.code ≡ 0 → Checks book l r l' → LongEnough (sizes l) × ((b : Book) × AcceptedBook book b)
        forth z (unread y n e) = absurd (n (sym (code_of_lem e) ∙ z))
        forth z (wrong b f {why = why} w u e) = absurd (omega (arith, code_of_lem e, over_seven why))
        forth z (fine b k e) = (k.filled.long, (b, accepted-book k))

    -- with the code of a reason, a book was read whose first wrong item has that reason
    pub wrong_for : (why : Reason) → r.code ≡ code_of why
        → LongEnough (sizes l) × ((b : Book) × AllowedBook b × (bytes_of b ≡ book) × ((i : ℕ) × WrongFor b i why))
    wrong_for why z = go x
      where
        go : Checks book l r l' → LongEnough (sizes l) × ((b : Book) × AllowedBook b × (bytes_of b ≡ book) × ((i : ℕ) × WrongFor b i why))
        go (unread y n e) = absurd (no_reading why (subst ReadCode (sym (code_of_lem e) ∙ z) (read_codes y)))
        go (wrong b f {i} {why = other} w u e) =
            let q : other ≡ why = same_code other why (sym (code_of_lem e) ∙ z) in
            (f.long, (b, f.allowed, f.bytes, (i, subst (λ (c : Reason). WrongFor b i c) q w)))
        go (fine b k e) = absurd (omega (arith, code_of_lem e, over_seven why))

    -- and with no code of a reason and not 0, no units
    pub no_units : (r.code ≡ 0 → ⊥) → ((why : Reason) → r.code ≡ code_of why → ⊥) → r.units ≡ 0
    no_units z w = go x
      where
        go : Checks book l r l' → r.units ≡ 0
        go (unread y n e) = ap (λ (c : Checking). c.units) e
        go (wrong b f {why = why} v u e) = absurd (w why (code_of_lem e))
        go (fine b k e) = absurd (z (code_of_lem e))

    -- no more than the sum over all items
    pub units_within : {b : Book} → AllowedBook b → bytes_of b ≡ book → r.units ≤ sum_units b.n (items_of b)
    units_within {b} a same = go x
      where
        go : Checks book l r l' → r.units ≤ sum_units b.n (items_of b)
        go (unread y n e) = omega (arith, ap (λ (c : Checking). c.units) e)
        go (wrong b' f {i} {why} w {units} u e) =
            let q : b' ≡ b = this_book a same f in
            omega (arith, ap (λ (c : Checking). c.units) e, subst (λ (c : Book). units ≤ sum_units c.n c.items) q (made-within b' i why (wrong_inside w) u))
        go (fine b' k e) =
            let q : b' ≡ b = this_book a same k.filled in
            omega (arith, ap (λ (c : Checking). c.units) e, ap (λ (c : Book). sum_units c.n c.items) q)
