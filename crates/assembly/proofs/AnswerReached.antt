-- Of items that the call reads and a run that is fine: what the numbers and the walk down the items leave is the answer. Assumes nothing.
use mathlib.Core.Path.{◌≡◌, refl, sym, ap, ap₂, ◌∙◌, subst}
use mathlib.Core.List.{List}
use Prim.Native.Nat.{ℕ, ◌-◌, ◌≤◌, ◌<◌}
use native.Mathlib.Omega.{arith}
use borrow.Author.Tests.{eq-eqb, ne_eqb}
use lib.ListN.{length, get_or, replicate, get_or-append}
use lib.Seq.{sets}
use Rattle.base.specs.Tests.{pick}
use Rattle.base.specs.Lists.{Each}
use Rattle.reversal.specs.Device.{Device}
use Rattle.reversal.specs.Reversal.{Item}
use Rattle.reversal.specs.Runs.{Run, last}
use Rattle.reversal.specs.Chains.{none, plan_of, legs_of, cost}
use Rattle.reversal.specs.Answers.{Allowed, Answer, refused, assembled}
use Rattle.reversal.specs.Computed.Beliefs.{belief}
use Rattle.reversal.specs.Computed.Least.{Links, Linked, total, leasts, least_at, chosen}
use Rattle.reversal.specs.Computed.Assembly.{links, numbers, answer}
use Rattle.reversal.proofs.Shortest.{leasts-length, leasts_at, least-most, chosen_linked}
use Rattle.reversal.proofs.Assembling.{sound, total-cost}
use Rattle.runs.specs.Computed.{run_of}
use Rattle.runs.proofs.Points.{last-is, command-is}
use Rattle.assembly.specs.declared.Assembly.{Assembly}
use Rattle.chains.specs.declared.Counts.{Counts}
use Rattle.points.specs.Believed.{Believed}
use Rattle.points.specs.Items.{Items, ItemsOf, WeightsOf}
use Rattle.points.specs.Links.{links_of, Numbered}
use Rattle.chains.specs.ChainFollowed.{followed, Steps, plan_in, legs_in, walk, Walkable, Walked}
use Rattle.assembly.specs.Lent.{legs_bytes, in_bytes, Room}
use Rattle.assembly.specs.Assembles.{refusal, result_of}
use Rattle.assembly.specs.Contract.{room_of}
use Rattle.points.proofs.LinksAgree.{Agree, numbered-same}
use Rattle.points.proofs.ItemsFit.{links_agree}
use Rattle.chains.proofs.FollowedIsChosen.{followed-chosen, linked_known, plan-same, legs-same}

-- result, plan and legs hold the answer a
pub record Stored (a : Answer) (room : Room ℕ) (r : Assembly) (room' : Room ℕ) : Type 0 where
  pub result_is : r ≡ result_of a
  pub room_is : room' ≡ room_of in_bytes room a

-- code 0 with both counts, the sum and the numbers
abbrev pub counted : ℕ → ℕ → ℕ → List ℕ → Assembly
counted commands legs sum fewest = record { code = 0; place = 0; commands = commands; legs = legs; sum = sum; fewest = fewest }

-- a chain is found: it can be walked, and what the walk leaves is the answer
pub record ChainFound (F : Items) (fewest firsts : List ℕ) (room : Room ℕ) (a : Answer) (i : ℕ) : Type 0 where
  pub walkable : Walkable F firsts i
  pub stored : {w : Counts} {room' : Room ℕ} → Walked F firsts i room.plan room.legs w room'.plan room'.legs
      → Stored a room (counted w.commands w.legs (get_or fewest i 0) fewest) room'

module _ (dev : Device) (ws : List ℕ) (items : List Item) (run : List ℕ) (allowed : Allowed dev ws items (run_of run)) (beliefs : List ℕ)
    (believed : Believed dev (run_of run) beliefs) (room : Room ℕ) where
  abbrev r : Run
  r = run_of run

  abbrev i : ℕ
  i = last r

  abbrev Q : Links
  Q = links dev ws r items

  -- ---- code 10
  module _ (none_left : get_or beliefs 0 0 ≡ 0) where
    answer_10 : answer dev ws items r ≡ refused 10 (replicate 33 none)
    unfolding answer pick
    answer_10 = rw (eq-eqb (belief dev r 0) 0 (sym (believed.each 0 (omega arith)) ∙ none_left))

    pub no_state : {w : Assembly} → w ≡ refusal 10 0 → Stored (answer dev ws items r) room w room
    unfolding legs_bytes
    no_state {w} e =
        subst (λ (a : Answer). Stored a room w room) (sym answer_10) (record { result_is = e; room_is = refl })

  -- ---- codes 11 and 0
  module _ (F : Items) (fields : ItemsOf items F) (W : List ℕ) (weigh : WeightsOf dev.m ws W) (some : get_or beliefs 0 0 ≡ 0 → ⊥)
      {fewest firsts : List ℕ} (fieldwise : Numbered (links_of F W run beliefs (length items)) i fewest firsts) where
    possible : belief dev r 0 ≡ 0 → ⊥
    possible e = some (believed.each 0 (omega arith) ∙ e)

    agrees : Agree i (links_of F W run beliefs (length items)) Q
    agrees =
        links_agree dev r items F fields run beliefs (λ y q. command-is run y (omega (arith, last-is run))) believed.each allowed.each ws W weigh

    num : Numbered Q i fewest firsts
    num = numbered-same agrees fieldwise

    fewest-is : fewest ≡ numbers dev ws r items
    unfolding numbers
    fewest-is = num.fewest

    least_is : get_or fewest i 0 ≡ least_at Q i
    least_is =
        ap (λ (ns : List ℕ). get_or ns i 0) num.fewest
        ∙ get_or-append (leasts Q i) (replicate (32 - i) Q.top) 0 i (omega (arith, leasts-length Q i))
        ∙ leasts_at Q i i (omega arith)

    module _ (no_number : get_or fewest i 0 ≡ Q.top) where
      answer_11 : answer dev ws items r ≡ refused 11 fewest
      unfolding answer pick
      answer_11 = rw (ne_eqb (belief dev r 0) 0 possible, eq-eqb (least_at Q i) Q.top (sym least_is ∙ no_number)) (ap (refused 11) (sym fewest-is))

      pub no_chain : Stored (answer dev ws items r) room (record { code = 11; place = 0; commands = 0; legs = 0; sum = 0; fewest = fewest }) room
      unfolding legs_bytes
      no_chain =
          subst
          (λ (a : Answer). Stored a room (record { code = 11; place = 0; commands = 0; legs = 0; sum = 0; fewest = fewest }) room)
          (sym answer_11) (record { result_is = refl; room_is = refl })

    module _ (number : get_or fewest i 0 ≡ Q.top → ⊥) where
      abbrev xs : List ℕ
      xs = chosen Q i i

      answer_0 : answer dev ws items r ≡ assembled ws items i xs fewest
      unfolding answer pick
      answer_0 =
          rw (ne_eqb (belief dev r 0) 0 possible, ne_eqb (least_at Q i) Q.top (λ e. number (least_is ∙ e)))
          (ap (assembled ws items i xs) (sym fewest-is))

      below : least_at Q i < Q.top
      below = strictly (least-most Q (sound dev ws items r allowed) i) (λ e. number (least_is ∙ e))
        where
          strictly : {x : ℕ} → x ≤ Q.top → (x ≡ Q.top → ⊥) → x < Q.top
          strictly {x} l d = omega (arith, l, d)

      linked : Linked Q i xs × (total Q xs ≡ least_at Q i)
      linked = chosen_linked Q (sound dev ws items r allowed) i i (omega arith) below

      known : Each (λ a. a < length items) xs
      known = linked_known Q xs i linked.0

      walks : (followed F firsts i i ≡ xs) × Steps F firsts i i
      walks = followed-chosen Q (sound dev ws items r allowed) F agrees.k-same num i i (omega arith) (omega arith) below

      plan_is : plan_in F (walk F firsts i) ≡ plan_of items xs
      plan_is = ap (plan_in F) walks.0 ∙ plan-same items F fields xs known

      legs_are : legs_in F i (walk F firsts i) ≡ legs_bytes (legs_of items i xs)
      legs_are = ap (legs_in F i) walks.0 ∙ legs-same items F fields xs i known

      sum_is : get_or fewest i 0 ≡ cost ws items xs
      sum_is = least_is ∙ sym linked.1 ∙ total-cost dev ws items r allowed xs

      walkable : Walkable F firsts i
      walkable = record { low = allowed.run.short; steps = walks.1 }

      chain-stored : {w : Counts} {room' : Room ℕ} → Walked F firsts i room.plan room.legs w room'.plan room'.legs
          → Stored (answer dev ws items r) room (counted w.commands w.legs (get_or fewest i 0) fewest) room'
      chain-stored {w} {room'} g =
          subst
          (λ (a : Answer). Stored a room (counted w.commands w.legs (get_or fewest i 0) fewest) room')
          (sym answer_0)
          (record {
            result_is =
                ap₂ (λ (x y : ℕ). counted x y (get_or fewest i 0) fewest)
                (g.commands_is ∙ ap (λ (l : List ℕ). length l) plan_is) (g.count_is ∙ ap (λ (l : List ℕ). length l) walks.0)
                ∙ ap (λ (x : ℕ). counted (length (plan_of items xs)) (length xs) x fewest) sum_is;
            room_is =
                ap₂ (λ (x y : List ℕ). record { plan = x; legs = y })
                (g.plan_is ∙ ap (sets room.plan 0) plan_is) (g.legs_is ∙ ap (sets room.legs 0) legs_are);
          })

      pub chain-found : ChainFound F fewest firsts room (answer dev ws items r) i
      chain-found = record { walkable = walkable; stored = chain-stored }
