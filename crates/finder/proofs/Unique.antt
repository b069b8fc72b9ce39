-- What 02 says of finding a reverse leaves one answer only, in the result and in the table; and when it is 0, 14 and 15. Assumes nothing.
use mathlib.Core.Path.{◌≡◌, refl, sym, ap, ◌∙◌, subst}
use mathlib.Core.Bool.{Bool, true, false, false≢true}
use mathlib.Core.Logic.{◌⊎◌, inl, inr, ◌↔◌}
use mathlib.Core.List.{List, [], ◌∷◌, ◌++◌}
use Prim.Native.Nat.{ℕ, zero, suc, ◌-◌, ◌≤◌}
use native.Mathlib.Omega.{arith}
use lib.ListN.{length, get_or, take, replicate}
use lib.Seq.{take_at}
use Rattle.base.specs.Lists.{Bytes}
use Rattle.base.specs.Tests.{pick}
use Rattle.reversal.specs.Device.{Device}
use Rattle.reversal.proofs.Assembling.{lex_antisym}
use Rattle.book.specs.Book.{Book, device_of, AllowedBook}
use Rattle.book.specs.Buffers.{table_of}
use Rattle.book.proofs.Codes.{refusal_codes}
use Rattle.book.proofs.Device.{device_proper}
use Rattle.book.proofs.Table.{table_read}
use Rattle.book.proofs.Unique.{one-book}
use Rattle.checker.specs.declared.TableChecking.{TableChecking}
use Rattle.checker.specs.declared.Reason.{Reason}
use Rattle.checker.specs.declared.Reason.TheVariants.{NoReversePlan, NotEffective}
use Rattle.checker.specs.Reasons.{code_of}
use Rattle.checker.specs.Checks.{AcceptedBook}
use Rattle.checker.specs.TableChecks.{TableChecked, TableChecks, short, faulty, wrong, fine}
use Rattle.checker.proofs.TableChecks.{table_checks_unique}
use Rattle.finder.specs.declared.Found.{Found}
use Rattle.finder.specs.Finds.{Sought, Makes, FirstOf, MayHold, refusal, reverse_is, Finds, unaccepted, barred, none, found}
use Rattle.finder.specs.Contract.{holds, found_in}
use Rattle.finder.proofs.Exactly.{holds↔, Says, found-says}

code_of_lem : {r q : Found} → r ≡ q → r.code ≡ q.code
code_of_lem e = ap (λ (x : Found). x.code) e

-- ---- one list is first

pub first_unique : {d : Device} {q : Sought} {cs ds : List ℕ} → FirstOf d q cs → FirstOf d q ds → cs ≡ ds
first_unique {cs = cs} {ds} f g =
    let same : length ds ≡ length cs = omega (arith, f.shortest ds g.makes, g.shortest cs f.makes) in
    lex_antisym cs ds (f.lowest ds g.makes same) (g.lowest cs f.makes (sym same))

-- ---- zeros

zeros_at : (n i : ℕ) → ◌≡◌ {A = ℕ} (get_or (replicate n 0) i 0) 0
zeros_at zero i = refl
zeros_at (suc n) zero = refl
zeros_at (suc n) (suc i) = zeros_at n i

past : (cs : List ℕ) (n i : ℕ) → length cs ≤ i → get_or (cs ++ replicate n 0) i 0 ≡ 0
past [] n i l = zeros_at n i
past (c ∷ cs) n zero l = absurd (omega arith)
past (c ∷ cs) n (suc i) l = past cs n i (omega (arith, l))

-- ---- the answer for an accepted book

abbrev pub Answers : Device → Sought → Found → Type 0
Answers d q r = ((MayHold d q → ⊥) × (r ≡ refusal 14 0)) ⊎ (MayHold d q × Says d q r)

held : {d : Device} {q : Sought} {cs : List ℕ} → Makes d q cs → MayHold d q
held {cs = cs} k = (cs, k.allowed)

module _ {d : Device} {q : Sought} where
  says_unique : {r r' : Found} → Says d q r → Says d q r' → r ≡ r'
  says_unique (inl (e, n)) (inl (e', n')) = e ∙ sym e'
  says_unique (inl (e, n)) (inr (cs, f, e')) = absurd (n cs f.makes)
  says_unique (inr (cs, f, e)) (inl (e', n)) = absurd (n cs f.makes)
  says_unique (inr (cs, f, e)) (inr (ds, g, e')) = e ∙ ap reverse_is (first_unique f g) ∙ sym e'

  answers_unique : {r r' : Found} → Answers d q r → Answers d q r' → r ≡ r'
  answers_unique (inl (n, e)) (inl (n', e')) = e ∙ sym e'
  answers_unique (inl (n, e)) (inr (h, s)) = absurd (n h)
  answers_unique (inr (h, s)) (inl (n, e)) = absurd (n h)
  answers_unique (inr (h, s)) (inr (h', s')) = says_unique s s'

-- a book that is not accepted, or an accepted one and its answer
abbrev Unaccepted : List ℕ → List ℕ → Found → List ℕ → Type 0
Unaccepted book table r table' = (c : TableChecking) × TableChecks book table c table' × (c.code ≡ 0 → ⊥) × (r ≡ refusal c.code c.place)

abbrev Answered : List ℕ → Sought → List ℕ → Found → List ℕ → Type 0
Answered book q table r table' = (b : Book) × TableChecked book table b table' × Answers (device_of b) q r

module _ {book : List ℕ} {q : Sought} {table : List ℕ} {r : Found} {table' : List ℕ} where
  way : Finds book q table r table' → Unaccepted book table r table' ⊎ Answered book q table r table'
  way (unaccepted {c} x n e) = inl (c, x, n, e)
  way (barred b g n e) = inr (b, g, inl (n, e))
  way (none b g h n e) = inr (b, g, inr (h, inl (e, n)))
  way (found b g cs f e) = inr (b, g, inr (held f.makes, inr (cs, f, e)))

  pub answers_find : (b : Book) → TableChecked book table b table' → Answers (device_of b) q r → Finds book q table r table'
  answers_find b g (inl (n, e)) = barred b g n e
  answers_find b g (inr (h, inl (e, n))) = none b g h n e
  answers_find b g (inr (h, inr (cs, f, e))) = found b g cs f e

  -- "a table, read as by checking, on 14 and 15 too"
  pub finds_table : Finds book q table r table' → (c : TableChecking) × TableChecks book table c table'
  finds_table f = go (way f)
    where
      go : Unaccepted book table r table' ⊎ Answered book q table r table' → (c : TableChecking) × TableChecks book table c table'
      go (inl (c, x, n, e)) = (c, x)
      go (inr (b, g, a)) = (record { code = 0; place = 0; n = b.n; m = b.m }, fine b g refl)

-- ---- the codes of checking with a table

pub table_codes : {book table : List ℕ} {c : TableChecking} {table' : List ℕ} → TableChecks book table c table' → (c.code ≤ 8) ⊎ (c.code ≡ 12) ⊎ (c.code ≡ 13)
table_codes {book} {table} {c} x = go x
  where
    its_code : {q : TableChecking} → c ≡ q → c.code ≡ q.code
    its_code e = ap (λ (y : TableChecking). y.code) e

    by_reading : {code : ℕ} → c.code ≡ code → (code ≤ 7) ⊎ (code ≡ 13) → (c.code ≤ 8) ⊎ (c.code ≡ 12) ⊎ (c.code ≡ 13)
    by_reading e (inl l) = inl (omega arith)
    by_reading e (inr l) = inr (inr (omega arith))

    by_item : (why : Reason) → c.code ≡ code_of why → (c.code ≤ 8) ⊎ (c.code ≡ 12) ⊎ (c.code ≡ 13)
    by_item NoReversePlan e = inl (omega arith)
    by_item NotEffective e = inr (inl e)

    go : {table' : List ℕ} → TableChecks book table c table' → (c.code ≤ 8) ⊎ (c.code ≡ 12) ⊎ (c.code ≡ 13)
    go (short l e k) = by_reading (its_code e) (inl (omega arith))
    go (faulty l {code} {place} f e k) = by_reading (its_code e) (refusal_codes book code place f).1
    go (wrong l b a s {why = why} w e k) = by_item why (its_code e)
    go (fine b g e) = by_reading (its_code e) (inl (omega arith))

-- and so never 14 or 15
pub table-never : {book table : List ℕ} {c : TableChecking} {table' : List ℕ} → TableChecks book table c table' → (c.code ≡ 14 → ⊥) × (c.code ≡ 15 → ⊥)
table-never {c = c} x = go (table_codes x)
  where
    go : (c.code ≤ 8) ⊎ (c.code ≡ 12) ⊎ (c.code ≡ 13) → (c.code ≡ 14 → ⊥) × (c.code ≡ 15 → ⊥)
    go (inl l) = ((λ e. omega arith), λ e. omega arith)
    go (inr (inl l)) = ((λ e. omega arith), λ e. omega arith)
    go (inr (inr l)) = ((λ e. omega arith), λ e. omega arith)

-- an accepted book, and a table that is long enough
checked : {book table : List ℕ} {b : Book} → 2048 ≤ length table → AcceptedBook book b → TableChecked book table b (table_of b table)
checked {table = table} {b} long a = record { long = long; accepted = a; read = table_read b table a.allowed long }

-- the answer that is found by the check of each item on sets
pub found_answers : {b : Book} → AllowedBook b → (q : Sought) → Answers (device_of b) q (found_in (device_of b) q)
unfolding found_in pick
found_answers {b} a q = go (holds b.n b.m q) refl
  where
    go : (t : Bool) → holds b.n b.m q ≡ t → Answers (device_of b) q (found_in (device_of b) q)
    go true e = let h = (holds↔ (device_of b) q).0 e in inr (h, found-says (device_of b) a.device.m_high q h (device_proper b a) _ refl)
    go false e = inl ((λ h. false≢true (sym e ∙ (holds↔ (device_of b) q).1 h)), rw e)

-- where some reverse makes an item, one is first
first_of : {b : Book} {q : Sought} → AllowedBook b → {cs : List ℕ} → Makes (device_of b) q cs → (ds : List ℕ) × FirstOf (device_of b) q ds
first_of {b} {q} a {cs} k = go (found_answers a q)
  where
    go : {x : Found} → Answers (device_of b) q x → (ds : List ℕ) × FirstOf (device_of b) q ds
    go (inl (n, e)) = absurd (n (held k))
    go (inr (h, inl (e, n))) = absurd (n cs k)
    go (inr (h, inr (ds, f, e))) = (ds, f)

-- ---- one answer only

module _ {book : List ℕ} {q : Sought} {table : List ℕ} {r : Found} {table' : List ℕ} (h : Bytes book) where
  -- the result, as checking with the table has it
  pub as_checked : Finds book q table r table' → {c : TableChecking} {x : List ℕ} → TableChecks book table c x
      → (table' ≡ x) × ((c.code ≡ 0 → ⊥) → r ≡ refusal c.code c.place)
  as_checked f {c} {x} y = go (way f)
    where
      go : Unaccepted book table r table' ⊎ Answered book q table r table' → (table' ≡ x) × ((c.code ≡ 0 → ⊥) → r ≡ refusal c.code c.place)
      go (inl (o, z, n, e)) =
          let (same, t) = table_checks_unique h z y in
          (t, λ m. e ∙ ap (λ (w : TableChecking). refusal w.code w.place) same)
      go (inr (b, g, a)) =
          let (same, t) = table_checks_unique h (fine b g refl) y in
          (t, λ m. absurd (m (sym (ap (λ (w : TableChecking). w.code) same))))

  -- and for an accepted book as its device has it
  on_book : Finds book q table r table' → {b : Book} {x : List ℕ} → TableChecked book table b x → Answers (device_of b) q r
  on_book f {b} {x} g = go (way f)
    where
      go : Unaccepted book table r table' ⊎ Answered book q table r table' → Answers (device_of b) q r
      go (inl (o, z, n, e)) = absurd (n (ap (λ (w : TableChecking). w.code) (table_checks_unique h z (fine b g refl)).0))
      go (inr (b', g', a)) =
          let same : b' ≡ b = one-book b' b g'.accepted.allowed g.accepted.allowed (g'.accepted.bytes ∙ sym g.accepted.bytes) in
          subst (λ (z : Book). Answers (device_of z) q r) same a

  pub finds_unique : {r' : Found} {x : List ℕ} → Finds book q table r table' → Finds book q table r' x → (r ≡ r') × (table' ≡ x)
  finds_unique {r'} {x} f f' = go (way f')
    where
      go : Unaccepted book table r' x ⊎ Answered book q table r' x → (r ≡ r') × (table' ≡ x)
      go (inl (o, z, n, e)) = let (t, same) = as_checked f z in (same n ∙ sym e, t)
      go (inr (b, g, a)) = (answers_unique (on_book f g) a, (as_checked f (fine b g refl)).0)

  -- ---- exactly when

  module _ (f : Finds book q table r table') where
    -- the result of an answer that some accepted book has
    given : {b : Book} {r' : Found} → 2048 ≤ length table → AcceptedBook book b → Answers (device_of b) q r' → r ≡ r'
    given {b} long a x = (finds_unique f (answers_find b (checked long a) x)).0

    -- "15, 0, no such reverse": "exactly when no other refusal is due and no reverse up to that length does so"
    pub fifteen↔ : (r.code ≡ 15)
        ↔ ((2048 ≤ length table) × ((b : Book) × AcceptedBook book b × MayHold (device_of b) q × ((cs : List ℕ) → Makes (device_of b) q cs → ⊥)))
    fifteen↔ = (λ z. forth z f, λ (long, (b, a, m, n)). code_of_lem (given long a (inr (m, inl (refl, n)))))
      where
        forth : r.code ≡ 15 → Finds book q table r table'
            → (2048 ≤ length table) × ((b : Book) × AcceptedBook book b × MayHold (device_of b) q × ((cs : List ℕ) → Makes (device_of b) q cs → ⊥))
        forth z (unaccepted x n e) = absurd ((table-never x).1 (sym (code_of_lem e) ∙ z))
        forth z (barred b g n e) = absurd (omega (arith, z, code_of_lem e))
        forth z (none b g m n e) = (g.long, (b, g.accepted, m, n))
        forth z (found b g cs k e) = absurd (omega (arith, z, code_of_lem e))

    -- "14, 0, forward commands or masks that no item may hold, after the book's own codes"
    pub fourteen↔ : (r.code ≡ 14) ↔ ((2048 ≤ length table) × ((b : Book) × AcceptedBook book b × (MayHold (device_of b) q → ⊥)))
    fourteen↔ = (λ z. forth z f, λ (long, (b, a, n)). code_of_lem (given long a (inl (n, refl))))
      where
        forth : r.code ≡ 14 → Finds book q table r table' → (2048 ≤ length table) × ((b : Book) × AcceptedBook book b × (MayHold (device_of b) q → ⊥))
        forth z (unaccepted x n e) = absurd ((table-never x).0 (sym (code_of_lem e) ∙ z))
        forth z (barred b g n e) = (g.long, (b, g.accepted, n))
        forth z (none b g m n e) = absurd (omega (arith, z, code_of_lem e))
        forth z (found b g cs k e) = absurd (omega (arith, z, code_of_lem e))

    -- 0 exactly where some reverse of at most 3 commands makes an accepted item
    pub zero↔ : (r.code ≡ 0) ↔ ((2048 ≤ length table) × ((b : Book) × AcceptedBook book b × ((cs : List ℕ) × Makes (device_of b) q cs)))
    zero↔ = (λ z. forth z f, λ (long, (b, a, (cs, k))). back long b a cs k)
      where
        forth : r.code ≡ 0 → Finds book q table r table'
            → (2048 ≤ length table) × ((b : Book) × AcceptedBook book b × ((cs : List ℕ) × Makes (device_of b) q cs))
        forth z (unaccepted x n e) = absurd (n (sym (code_of_lem e) ∙ z))
        forth z (barred b g n e) = absurd (omega (arith, z, code_of_lem e))
        forth z (none b g m n e) = absurd (omega (arith, z, code_of_lem e))
        forth z (found b g cs k e) = (g.long, (b, g.accepted, (cs, k.makes)))

        back : 2048 ≤ length table → (b : Book) → AcceptedBook book b → (cs : List ℕ) → Makes (device_of b) q cs → r.code ≡ 0
        back long b a cs k =
            let (ds, first) = first_of a.allowed k in
            code_of_lem (given {r' = reverse_is ds} long a (inr (held k, inr (ds, first, refl))))

    -- and then the count and the commands are the first of these
    pub zero-first : r.code ≡ 0
        → (r.count ≤ 3) × (b : Book) × AcceptedBook book b × FirstOf (device_of b) q (take r.count r.commands) × (r ≡ reverse_is (take r.count r.commands))
    zero-first z = go f
      where
        go : Finds book q table r table'
            → (r.count ≤ 3) × (b : Book) × AcceptedBook book b × FirstOf (device_of b) q (take r.count r.commands) × (r ≡ reverse_is (take r.count r.commands))
        go (unaccepted x n e) = absurd (n (sym (code_of_lem e) ∙ z))
        go (barred b g n e) = absurd (omega (arith, z, code_of_lem e))
        go (none b g m n e) = absurd (omega (arith, z, code_of_lem e))
        go (found b g cs k e) =
            let same : cs ≡ take r.count r.commands = sym (ap (λ (x : Found). take x.count x.commands) e ∙ take_at cs _ (length cs) refl) in
            let few : r.count ≤ 3 = omega (arith, ap (λ (x : Found). x.count) e, k.makes.short) in
            (few, b, g.accepted, subst (FirstOf (device_of b) q) same k, e ∙ ap reverse_is same)

    -- the commands answered are the first of all that do so, whichever value the book's bytes have
    pub found_first : r.code ≡ 0 → (b : Book) → AcceptedBook book b → FirstOf (device_of b) q (take r.count r.commands)
    found_first z b a =
        let (few, b', a', first, e) = zero-first z in
        let same : b' ≡ b = one-book b' b a'.allowed a.allowed (a'.bytes ∙ sym a.bytes) in
        subst (λ (x : Book). FirstOf (device_of x) q (take r.count r.commands)) same first

    -- at most 3, and those past the count are 0
    pub found-numbers : (r.count ≤ 3) × ((i : ℕ) → r.count ≤ i → get_or r.commands i 0 ≡ 0) × ((r.code ≡ 0 → ⊥) → r.count ≡ 0)
    found-numbers = go f
      where
        none_used : {code place : ℕ} → r ≡ refusal code place
            → (r.count ≤ 3) × ((i : ℕ) → r.count ≤ i → get_or r.commands i 0 ≡ 0) × ((r.code ≡ 0 → ⊥) → r.count ≡ 0)
        none_used e =
            let zero : r.count ≡ 0 = ap (λ (x : Found). x.count) e in
            (omega (arith, zero), (λ i l. ap (λ (x : Found). get_or x.commands i 0) e ∙ zeros_at 3 i), λ n. zero)

        go : Finds book q table r table' → (r.count ≤ 3) × ((i : ℕ) → r.count ≤ i → get_or r.commands i 0 ≡ 0) × ((r.code ≡ 0 → ⊥) → r.count ≡ 0)
        go (unaccepted x m e) = none_used e
        go (barred b g m e) = none_used e
        go (none b g m k e) = none_used e
        go (found b g cs k e) =
            let count : r.count ≡ length cs = ap (λ (x : Found). x.count) e in (
              omega (arith, count, k.makes.short),
              λ i l. ap (λ (x : Found). get_or x.commands i 0) e ∙ past cs (3 - length cs) i (omega (arith, count, l)),
              λ n. absurd (n (code_of_lem e)),
            )
