-- `last_commands` meets its contract. Assumes nothing.
use mathlib.Core.Path.{◌≡◌, ap, ◌∙◌}
use mathlib.Core.Bool.{Bool}
use mathlib.Core.List.{List, [], ◌∷◌, ◌++◌}
use Prim.Native.Nat.{ℕ, ◌-◌, ◌*◌, ◌%◌, ◌^◌, ◌≤◌}
use native.Mathlib.Omega.{arith}
use lib.ListN.{get_or}
use Rattle.base.specs.Tests.{both}
use Rattle.base.specs.Cardinality.{member}
use Rattle.base.proofs.Masks.{shl_one}
use Rattle.octets.specs.Le.{bytes_le}
use Rattle.reversal.specs.Device.{Device}
use Rattle.reversal.specs.Computed.Sets.{runs_back}
use Rattle.states.proofs.Laws.{mask_of}
use Rattle.finder.specs.Contract.{Passing}
use Rattle.finder.specs.Searching.{lent}
use Rattle.finder.proofs.Passes.{passing_same}
use Rattle.finder.proofs.Last.{Asking, ask_next, ask_none, back_by, in_reach, whole_back, starts_first}
use Rattle.finder.proofs.Search.last_commands.Goals as goal

-- all commands
full : (m : ℕ) → m ≤ 32 → 1 * 2 ^ m % 2 ^ 64 ≡ 2 ^ m
full m h = shl_one m (omega (arith, h))

pub loop-start-init : goal.loop-start-init
loop-start-init c =
    let s = c.args.self.now in
    let d = s.within in
    rw (c.into_iter-start-iterator.ensures.into_iter_gives, c.below-start-items.ensures)
    (starts_first (lent d) s.ends.now (bytes_le c.args.row.count c.args.row.number) d.device.m _ s.used.mask d.states
    (ap (λ (w : ℕ). w - 1) (full d.device.m d.commands)))

-- the commands that bring one more start back too
next_start : (d : Device) (ends row : List ℕ) → d.n ≤ 64 → d.m ≤ 32 → (whole : ℕ → Bool) (commands : ℕ) (starts : List ℕ)
    → Asking (back_by d ends row) d.n d.m whole commands starts → (start : ℕ) (starts' : List ℕ) → starts ≡ start ∷ starts'
    → (set : ℕ) → set ≡ get_or ends start 0
    → (w : ℕ) → Passing d.m (λ c. both (member commands c) (runs_back d set (row ++ (c ∷ [])) start)) w
    → Asking (back_by d ends row) d.n d.m whole w starts'
next_start d ends row hn hm whole commands starts a start starts' split set q w p =
    ask_next (back_by d ends row) d.n d.m whole _ _ a start starts' split _
    (passing_same p (λ b l. ap (both (member commands b))
    (ap (λ (v : ℕ). runs_back d v (row ++ (b ∷ [])) start) q ∙ in_reach d ends row hn hm b start)))

pub returns-then-commands-eq0 : goal.returns-then-commands-eq0
returns-then-commands-eq0 c =
    let s = c.args.self.now in
    let l = c.loop-start in
    let d = lent s.within in
    let row = bytes_le c.args.row.count c.args.row.number in
    let whole = whole_back d s.ends.now row s.used.mask in
    ask_none (back_by d s.ends.now row) d.n d.m whole _ _
    (next_start d s.ends.now row s.within.states s.within.commands whole l.commands _ l.invariant _ _ c.in-Some.ensures.steps
    _ (mask_of c.of-set.ensures) _ c.last_behind-commands.ensures)
    c.if-commands-eq0.true

pub loop-start-preserved : goal.loop-start-preserved
loop-start-preserved c =
    let s = c.args.self.now in
    let l = c.loop-start in
    let d = lent s.within in
    let row = bytes_le c.args.row.count c.args.row.number in
    next_start d s.ends.now row s.within.states s.within.commands (whole_back d s.ends.now row s.used.mask) l.commands _ l.invariant _ _ c.in-Some.ensures.steps
    _ (mask_of c.of-set.ensures) _ c.last_behind-commands.ensures
