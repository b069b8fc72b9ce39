-- The structs made of the bytes are those of the chain's legs. Assumes nothing.
use mathlib.Core.Path.{◌≡◌, refl, sym, ap, ap₂, ◌∙◌, subst}
use mathlib.Core.List.{List, [], ◌∷◌, map}
use Prim.Native.Nat.{ℕ, suc, ◌+◌, ◌-◌, ◌≤◌, ◌<◌}
use native.Mathlib.Decide.{dec_lt}
use native.Mathlib.Omega.{arith}
use lib.ListN.{length, set, take}
use lib.Seq.{sets}
use Rattle.base.specs.Lists.{Each}
use Rattle.base.proofs.Lists.{stored}
use Rattle.reversal.specs.Chains as chains
use Rattle.book.specs.Lent.{Lent}
use Rattle.assembly.specs.Asked.{Asked}
use Rattle.assembly.specs.declared.Assembly.{Assembly}
use Rattle.assembly.specs.Lent.{legs_bytes, in_bytes, Room, lent_room, AllLent, all_lent}
use Rattle.assembly.specs.LegsRead.{legs_read}
use Rattle.assembly.specs.Assembles.{refusal, result_of}
use Rattle.assembly.specs.Contract.{plan_by, room_of, PlannedAs, AssembleAs}
use Rattle.assembly.proofs.LegsRead.{legs-read}
use Rattle.assembly.proofs.Exactly.{Even, even-bytes, Outcome, refused, given, outcome}
use Rattle.planner.specs.declared.Leg.{Leg}
use Rattle.planner.specs.Structs.{struct_of, in_structs}
use Rattle.planner.specs.Whole.{leg_at, structs_in, zeros}

-- one struct for a leg
pub even_structs : Even in_structs
even_structs [] = refl
even_structs (l ∷ ls) = omega (arith, even_structs ls)

-- ---- a turn and the end of the loop that writes them
module _ (n : ℕ) (s : List ℕ) (whole : List Leg) (i : ℕ) where
  pub legs-again : (legs : List Leg) (l : Leg) → sets legs i (structs_in s (n - i) i) ≡ whole → l ≡ leg_at s i → i < n
      → sets (set legs i l) (i + 1) (structs_in s (n - (i + 1)) (i + 1)) ≡ whole
  unfolding legs_read
  legs-again legs l w e h =
      let f : n - i ≡ suc (n - (i + 1)) = omega arith in
      let g : suc i ≡ i + 1 = omega arith in
      subst (λ (k : ℕ). sets (set legs i l) k (structs_in s (n - (i + 1)) (i + 1)) ≡ whole) g (rw e (rw f at w))

  pub legs-done : (legs : List Leg) → sets legs i (structs_in s (n - i) i) ≡ whole → n ≤ i → legs ≡ whole
  unfolding legs_read
  legs-done legs w h =
      let f : n - i ≡ 0 = omega arith in
      rw f at w

-- the structs of bytes that begin with a chain's legs
chain_structs : (ls : List chains.Leg) → length ls ≤ 32 → structs_in (sets zeros 0 (legs_bytes ls)) (length ls) 0 ≡ map struct_of ls
chain_structs ls h =
    let fits : length (legs_bytes ls) ≤ length zeros = omega (arith, even-bytes ls) in
    let front = (stored (legs_bytes ls) zeros (sets zeros 0 (legs_bytes ls)) fits refl).front in
    ap (map struct_of)
    (legs-read ls (sets zeros 0 (legs_bytes ls)) (length ls) refl
    (ap (λ (k : ℕ). take k (sets zeros 0 (legs_bytes ls))) (sym (even-bytes ls)) ∙ front))

-- ---- fewer than 32 structs
module _ {ask : Asked} {read : Lent} {plan : List ℕ} {legs : List Leg} where
  pub structs_short : Each (λ x. x < 256) ask.book → length legs < 32 → {r : Assembly} → r ≡ refusal 1 0
      → AssembleAs in_structs ask (all_lent read plan legs) r (all_lent read plan legs)
  structs_short h l e = record { bytes = h; short = λ _. (e, refl); enough = λ k. absurd (omega (arith, k.1.0)) }

-- ---- assembling with bytes
module _ {ask : Asked} {read : Lent} {plan : List ℕ} {r : Assembly} {read' : Lent} {plan' bytes : List ℕ}
    (c : AssembleAs in_bytes ask (all_lent read plan zeros) r (all_lent read' plan' bytes)) where
  module _ (legs legs' : List Leg) (l : 32 ≤ length legs) (e : legs' ≡ sets legs 0 (structs_in bytes r.legs 0)) where
    counted : {x : Assembly} → r ≡ x → legs' ≡ sets legs 0 (structs_in bytes x.legs 0)
    counted q = e ∙ ap (λ (x : Assembly). sets legs 0 (structs_in bytes x.legs 0)) q

    both : {p : List ℕ} {g : List Leg} → plan' ≡ p → legs' ≡ g → lent_room plan' legs' ≡ lent_room p g
    both x y = ap₂ (λ (p : List ℕ) (g : List Leg). lent_room p g) x y

    structs_planned : PlannedAs in_bytes ask (lent_room plan zeros) r (lent_room plan' bytes)
        → PlannedAs in_structs ask (lent_room plan legs) r (lent_room plan' legs')
    unfolding legs_read
    structs_planned p =
        record { bytes = p.bytes; bytes_of_run = p.bytes_of_run; result = p.result; room_is = go (outcome ask p.bytes p.bytes_of_run) }
      where
        go : Outcome ask → lent_room plan' legs' ≡ plan_by ask (λ code place. lent_room plan legs) (room_of in_structs (lent_room plan legs))
        go (refused code place f) =
            both (ap (λ (x : Room ℕ). x.plan) (p.room_is ∙ f (Room ℕ) _ _)) (counted (p.result ∙ f Assembly refusal result_of)) ∙ sym (f (Room Leg) _ _)
        go (given a small f) =
            let w = p.room_is ∙ f (Room ℕ) _ _ in
            both (ap (λ (x : Room ℕ). x.plan) w)
            (counted (p.result ∙ f Assembly refusal result_of)
            ∙ ap (λ (k : ℕ). sets legs 0 (structs_in bytes k 0)) (sym small.legs_counted)
            ∙ ap (λ (x : Room ℕ). sets legs 0 (structs_in x.legs (length a.plan-legs) 0)) w
            ∙ ap (sets legs 0) (chain_structs a.plan-legs small.legs-small))
            ∙ sym (f (Room Leg) _ _)

    -- the call with structs goes the way of the one with bytes
    pub told_enough : AssembleAs in_structs ask (all_lent read plan legs) r (all_lent read' plan' legs')
    unfolding legs_read
    told_enough =
        record {
          bytes = c.bytes;
          short =
              λ n.
              let (q, w) = c.short (λ h. n (h.0, (l, h.1.1))) in
              (q, ap (all_lent read' plan') (counted q) ∙ ap (λ (x : AllLent ℕ). all_lent x.read x.room.plan legs) w);
          enough = λ h. let (p, k) = c.enough (h.0, (omega arith, h.1.1)) in (structs_planned p, k);
        }

-- ---- the whole call, by its two cases
module _ {ask : Asked} {read : Lent} {plan : List ℕ} {r : Assembly} {read' : Lent} {plan' bytes : List ℕ} where
  pub legs_told : (legs legs' : List Leg) → Each (λ x. x < 256) ask.book
      → (length legs < 32 → (r ≡ refusal 1 0) × (read' ≡ read) × (plan' ≡ plan))
      → (32 ≤ length legs → AssembleAs in_bytes ask (all_lent read plan zeros) r (all_lent read' plan' bytes))
      → legs' ≡ sets legs 0 (structs_in bytes r.legs 0) → AssembleAs in_structs ask (all_lent read plan legs) r (all_lent read' plan' legs')
  unfolding legs_read
  legs_told legs legs' h few enough e = go (dec_lt (length legs) 32)
    where
      go : Dec (length legs < 32) → AssembleAs in_structs ask (all_lent read plan legs) r (all_lent read' plan' legs')
      go (yes l) =
          let (p, er, ep) = few l in
          let none : legs' ≡ legs = e ∙ ap (λ (x : Assembly). sets legs 0 (structs_in bytes x.legs 0)) p in
          rw (er, ep, none) (structs_short {ask = ask} {read = read} {plan = plan} {legs = legs} h l p)
      go (no l) = told_enough (enough (omega arith)) legs legs' (omega arith) e
