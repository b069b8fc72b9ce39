-- Assembling with little memory left: its contract gives what 02 says; both forms give the same; one answer only. Assumes nothing.
use mathlib.Core.Path.{◌≡◌, refl, sym, ap, ◌∙◌}
use mathlib.Core.List.{List}
use Prim.Native.Nat.{ℕ, ◌≤◌}
use native.Mathlib.Omega.{arith}
use lib.ListN.{length, drop, replicate, length-replicate}
use Rattle.base.specs.Lists.{Bytes}
use Rattle.base.specs.Sizes.{LongEnough}
use Rattle.base.proofs.Sizes.{long_or_not}
use Rattle.book.specs.Lent.{Lent, lent, sizes}
use Rattle.assembly.specs.Asked.{Asked}
use Rattle.assembly.specs.declared.Assembly.{Assembly}
use Rattle.assembly.specs.Lent.{in_bytes, Room, AllLent, room_sizes, all_sizes}
use Rattle.reader.specs.Contract.{filled_by}
use Rattle.assembly.specs.Assembles.{refusal, result_of, short}
use Rattle.assembly.specs.Small.{small_sizes, beside, AssemblesSmall, SmallDemand}
use Rattle.assembly.specs.Small as small
use Rattle.assembly.specs.Contract.{plan_by, room_of, PlannedAs, AssembleAs, SmallAs}
use Rattle.assembly.proofs.Exactly.{even-bytes, assembles}
use Rattle.assembly.proofs.Demand.{demand}
use Rattle.assembly.proofs.Unique.{assembles_unique}

-- ---- to the contract, by the ways through the code
module _ {ask : Asked} {scratch : List ℕ} {room : Room ℕ} {r : Assembly} where
  pub small-short : Bytes ask.book → (LongEnough (small_sizes scratch room) → ⊥) → r ≡ refusal 1 0 → SmallAs ask scratch room r scratch room
  small-short bytes n e = record { bytes = bytes; short = λ _. (e, refl, refl); enough = λ h. absurd (n h); rest = refl }

  pub small-long : {scratch' : List ℕ} {room' : Room ℕ} → LongEnough (small_sizes scratch room) → drop 64 scratch' ≡ drop 64 scratch
      → PlannedAs in_bytes ask room r room' → SmallAs ask scratch room r scratch' room'
  small-long h kept p = record { bytes = p.bytes; short = λ n. absurd (n h); enough = λ _. p; rest = kept }

-- ---- the contract
-- plan and legs as in any table, slots and weights that are long enough
pub in_any : {ask : Asked} {room : Room ℕ} {r : Assembly} {room' : Room ℕ} → PlannedAs in_bytes ask room r room'
    → LongEnough (room_sizes in_bytes room) → (l : Lent) → LongEnough (sizes l)
    → AssembleAs in_bytes ask (beside room l) r (beside room' (filled_by ask.book l))
in_any p long l h = record { bytes = p.bytes; short = λ n. absurd (n (long.0, (long.1.0, h))); enough = λ _. (p, refl) }

pub assembles_small : {ask : Asked} {scratch : List ℕ} {room : Room ℕ} {r : Assembly} {scratch' : List ℕ} {room' : Room ℕ}
    → SmallAs ask scratch room r scratch' room' → AssemblesSmall ask scratch room r scratch' room'
assembles_small {ask} {scratch} {room} {r} {scratch'} {room'} c = go (long_or_not (small_sizes scratch room))
  where
    go : Dec (LongEnough (small_sizes scratch room)) → AssemblesSmall ask scratch room r scratch' room'
    go (yes h) =
        small.as_first h c.rest (λ l enough. (_, assembles even-bytes (in_any (c.enough h) (h.0, (h.1.0, tt)) l enough)))
    go (no n) = let (e, s, w) = c.short n in small.short n e s w

-- ---- demand 3, by the definition
pub small_demand : {ask : Asked} {scratch : List ℕ} {room : Room ℕ} {r : Assembly} {scratch' : List ℕ} {room' : Room ℕ} → Bytes ask.book
    → AssemblesSmall ask scratch room r scratch' room' → SmallDemand ask scratch room r scratch' room'
-- where plan or legs are short, the first form too says 1
small_demand h (small.short n e s w) =
    record {
      as_first =
          λ enough l _. (l, demand even-bytes h (short (λ long. n (long.0, (long.1.0, (enough, tt)))) e (ap (λ (x : Room ℕ). beside x l) w)));
      short_scratch = λ _. ap (λ (x : Assembly). x.code) e;
    }
small_demand h (small.as_first long k f) =
    record {
      as_first = λ _ l enough. let (l', x) = f l enough in (l', demand even-bytes h x);
      short_scratch = λ l. absurd (omega (arith, long.1.1.0));
    }

-- ---- both forms give the same: the result of book and run alone, and plan and legs of these and of what they held
abbrev pub result_by : Asked → Assembly
result_by ask = plan_by ask refusal result_of

abbrev pub left_by : Asked → Room ℕ → Room ℕ
left_by ask room = plan_by ask (λ code place. room) (room_of in_bytes room)

pub first_gives : {ask : Asked} {l l' : AllLent ℕ} {r : Assembly} → AssembleAs in_bytes ask l r l' → LongEnough (all_sizes in_bytes l)
    → (r ≡ result_by ask) × (l'.room ≡ left_by ask l.room)
first_gives c h = let p = (c.enough h).0 in (p.result, p.room_is)

pub small_gives : {ask : Asked} {scratch scratch' : List ℕ} {room room' : Room ℕ} {r : Assembly} → SmallAs ask scratch room r scratch' room'
    → LongEnough (small_sizes scratch room) → (r ≡ result_by ask) × (room' ≡ left_by ask room)
small_gives c h = let p = c.enough h in (p.result, p.room_is)

-- there are a table, slots and weights of the stated lengths
some : Lent
some = lent (replicate 2048 0) (replicate 2176 0) (replicate 32 0)

some-long : LongEnough (sizes some)
unfolding some
some-long = (held 2048, (held 2176, (held 32, tt)))
  where
    held : (n : ℕ) → n ≤ length {A = ℕ} (replicate n 0)
    held n = omega (arith, length-replicate {A = ℕ} n 0)

-- ---- one answer only: result, plan and legs, what lies past the scratch's 64 masks, and on 1 the scratch
pub small_unique : {ask : Asked} {scratch : List ℕ} {room : Room ℕ} {r q : Assembly} {scratch' scratch'' : List ℕ} {room' room'' : Room ℕ} → Bytes ask.book
    → AssemblesSmall ask scratch room r scratch' room' → AssemblesSmall ask scratch room q scratch'' room''
    → (r ≡ q) × (room' ≡ room'') × (drop 64 scratch' ≡ drop 64 scratch'') × ((LongEnough (small_sizes scratch room) → ⊥) → scratch' ≡ scratch'')
small_unique h (small.short n e s w) (small.short n' e' s' w') = (e ∙ sym e', w ∙ sym w', ap (drop 64) (s ∙ sym s'), λ _. s ∙ sym s')
small_unique h (small.short n e s w) (small.as_first long k f) = absurd (n long)
small_unique h (small.as_first long k f) (small.short n e s w) = absurd (n long)
small_unique h (small.as_first long k f) (small.as_first _ k' f') =
    let (l', x) = f some some-long in
    let (l'', y) = f' some some-long in
    let (e, w) = assembles_unique h x y in
    (e, ap (λ (w : AllLent ℕ). w.room) w, k ∙ sym k', λ n. absurd (n long))
