-- What 01 says of assembling leaves one answer only, for either form of the legs: the result and the buffers. Assumes nothing.
use mathlib.Core.Path.{◌≡◌, sym, ap, ap₂, ◌∙◌, subst}
use mathlib.Core.List.{List}
use Prim.Native.Nat.{ℕ}
use Rattle.base.specs.Lists.{Bytes}
use Rattle.base.specs.Sizes.{LongEnough}
use Rattle.base.proofs.Lists.{same-written}
use Rattle.base.proofs.Sizes.{long_after}
use Rattle.reversal.specs.Runs.{Run, AllowedRun}
use Rattle.reversal.specs.Answers.{Answer, Answers}
use Rattle.reversal.proofs.OneAnswer.{answers_unique}
use Rattle.book.specs.Book.{Book, device_of, items_for}
use Rattle.book.specs.Lent.{Lent, sizes}
use Rattle.book.proofs.Unique.{one-book}
use Rattle.checker.specs.declared.Checking.{Checking}
use Rattle.reader.proofs.Unique.{same-filled}
use Rattle.checker.specs.Checks.{Checked, Checks}
use Rattle.checker.proofs.Unique.{accepted-book, checks_unique, checked-fine}
use Rattle.runs.proofs.Formed.{one-run}
use Rattle.assembly.specs.Asked.{Asked}
use Rattle.assembly.specs.declared.Assembly.{Assembly}
use Rattle.assembly.specs.Lent.{LegForm, Room, AllLent, room_sizes, all_sizes}
use Rattle.assembly.specs.Assembles.{refusal, Left, Assembles, short, unaccepted, faulty, answered}
use Rattle.assembly.specs.Demand.{Given}

not-accepted : {book : List ℕ} {l : Lent} {c : Checking} {x : Lent} {b : Book} {y : Lent} → Bytes book → Checks book l c x → (c.code ≡ 0 → ⊥)
    → Checked book l b y → ⊥
not-accepted h x n k = n (ap (λ (y : Checking). y.code) (checked-fine h x k.filled.long (accepted-book k)).0)

-- one answer is left in one way
pub same_left : {E : Type 0} {form : LegForm E} {a : Answer} {room : Room E} {r q : Assembly} {x y : Room E} → Left form a room r x
    → Left form a room q y → (r ≡ q) × (x ≡ y)
same_left {E} v w = (
  v.result_is ∙ sym w.result_is,
  ap₂ (λ (p : List ℕ) (q : List E). record { plan = p; legs = q }) (same-written v.plan_written w.plan_written)
      (same-written v.legs_written w.legs_written),
)

-- the buffers are one where those read and those written are
both : {E : Type 0} {x y : AllLent E} → x.read ≡ y.read → x.room ≡ y.room → x ≡ y
both {E} e f = ap₂ (λ (p : Lent) (q : Room E). record { read = p; room = q }) e f

module _ {E : Type 0} {form : LegForm E} {ask : Asked} {l : AllLent E} (h : Bytes ask.book) {r : Assembly} {l' : AllLent E} where
  pub assembles_unique : {q : Assembly} {l'' : AllLent E} → Assembles form ask l r l' → Assembles form ask l q l'' → (r ≡ q) × (l' ≡ l'')
  assembles_unique (short a e k) (short a' e' k') = (e ∙ sym e', k ∙ sym k')
  assembles_unique (short a e k) (unaccepted long x n e' w') = absurd (a long)
  assembles_unique (short a e k) (faulty long b x n e' w') = absurd (a long)
  assembles_unique (short a e k) (answered long b x u al ub an right left) = absurd (a long)
  assembles_unique (unaccepted long x n e w) (short a e' k) = absurd (a long)
  assembles_unique (unaccepted long x n e w) (unaccepted long' x' n' e' w') =
      let (c, i) = checks_unique h x x' in
      (e ∙ (ap (λ (y : Checking). refusal y.code y.place) c ∙ sym e'), both i (w ∙ sym w'))
  assembles_unique (unaccepted long x n e w) (faulty long' b k m e' w') = absurd (not-accepted h x n k)
  assembles_unique (unaccepted long x n e w) (answered long' b k u al ub an right left) = absurd (not-accepted h x n k)
  assembles_unique (faulty long b k n e w) (short a e' k') = absurd (a long)
  assembles_unique (faulty long b k n e w) (unaccepted long' x m e' w') = absurd (not-accepted h x m k)
  assembles_unique (faulty long b k n e w) (faulty long' b' k' n' e' w') =
      let (x, i) = same-filled k.filled k'.filled in
      (e ∙ sym e', both i (w ∙ sym w'))
  assembles_unique (faulty long b k n e w) (answered long' b' k' u al ub an right left) =
      let (x, i) = same-filled k.filled k'.filled in
      absurd (n (u, subst (λ (y : Book). AllowedRun (device_of y) u) (sym x) al, ub))
  assembles_unique (answered long b k u al ub an right left) (short a e' k') = absurd (a long)
  assembles_unique (answered long b k u al ub an right left) (unaccepted long' x m e' w') = absurd (not-accepted h x m k)
  assembles_unique (answered long b k u al ub an right left) (faulty long' b' k' n e' w') =
      let (x, i) = same-filled k.filled k'.filled in
      absurd (n (u, subst (λ (y : Book). AllowedRun (device_of y) u) x al, ub))
  assembles_unique (answered long b k u al ub an right left) (answered long' b' k' u₂ al₂ ub₂ an₂ right₂ left₂) =
      let (x, i) = same-filled k.filled k'.filled in
      let al' : AllowedRun (device_of b') u = subst (λ (y : Book). AllowedRun (device_of y) u) x al in
      let e : u ≡ u₂ = one-run (device_of b') k'.filled.allowed.device.n_high al' al₂ (ub ∙ sym ub₂) in
      let right' : Answers (device_of b') b'.weights (items_for b') u₂ an
      = subst (λ (v : Run). Answers (device_of b') b'.weights (items_for b') v an) e (subst (λ (y : Book). Answers (device_of y) y.weights (items_for y) u an) x right) in
      let same : an ≡ an₂ = answers_unique (device_of b') b'.weights (items_for b') u₂ an an₂ right' right₂ in
      let (c, f) = same_left (subst (λ (a : Answer). Left form a l.room r l'.room) same left) left₂ in (c, both i f)

  -- where the buffers are long enough, for a book and a run that are known, the answer is theirs
  pub given-answer : Assembles form ask l r l' → LongEnough (all_sizes form l) → {b : Book} {u : Run} → Given ask b u
      → (a : Answer) × Answers (device_of b) b.weights (items_for b) u a × Left form a l.room r l'.room
  given-answer (short a e k) long g = absurd (a long)
  given-answer (unaccepted long' x n e w) long g =
      let read-long = long_after (room_sizes form l.room) (sizes l.read) long in
      absurd (n (ap (λ (y : Checking). y.code) (checked-fine h x read-long g.accepted).0))
  given-answer (faulty long' b' k n e w) long {b} {u} g =
      let x : b ≡ b' = one-book b b' g.accepted.allowed k.filled.allowed (g.accepted.bytes ∙ sym k.filled.bytes) in
      absurd (n (u, subst (λ (y : Book). AllowedRun (device_of y) u) x g.allowed, g.bytes_of_run))
  given-answer (answered long' b' k u' al ub an right left) long {b} {u} g =
      let x : b' ≡ b = one-book b' b k.filled.allowed g.accepted.allowed (k.filled.bytes ∙ sym g.accepted.bytes) in
      let al' : AllowedRun (device_of b) u' = subst (λ (y : Book). AllowedRun (device_of y) u') x al in
      let e : u' ≡ u = one-run (device_of b) g.accepted.allowed.device.n_high al' g.allowed (ub ∙ sym g.bytes_of_run) in (
        an,
        subst (λ (v : Run). Answers (device_of b) b.weights (items_for b) v an) e (subst (λ (y : Book). Answers (device_of y) y.weights y.items u' an) x right),
        left,
      )

  -- at an answer known to be right
  pub left_at : Assembles form ask l r l' → LongEnough (all_sizes form l) → {b : Book} {u : Run} → Given ask b u
      → {a : Answer} → Answers (device_of b) b.weights (items_for b) u a → Left form a l.room r l'.room
  left_at x long {b} {u} g {a} right =
      let (a', right', left) = given-answer x long g in
      subst (λ (y : Answer). Left form y l.room r l'.room) (answers_unique (device_of b) b.weights (items_for b) u a' a right' right) left
