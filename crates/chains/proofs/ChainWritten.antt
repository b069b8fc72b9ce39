-- Writing the chain down the items, turn by turn: what is left to write gives the whole (`Walking`), where the chain can be walked (`Going`).
-- Assumes nothing.
use mathlib.Core.Path.{◌≡◌, refl, sym, ap, ◌∙◌, subst}
use mathlib.Core.List.{List, [], ◌∷◌, ◌++◌}
use Prim.Native.Nat.{ℕ, zero, suc, ◌+◌, ◌-◌, ◌*◌, ◌≤◌, ◌<◌}
use native.Mathlib.Omega.{arith}
use lib.ListN.{length, get_or, length-append}
use lib.Seq.{sets, length-sets}
use Rattle.octets.specs.Parts.{piece}
use Rattle.octets.proofs.Put.{sets_append}
use Rattle.points.specs.Items.{Items, k_of}
use Rattle.chains.specs.ChainFollowed.{followed, Steps, plan_in, leg_bytes, legs_in, walk, Walkable, Walked, WalkedAs}

-- a leg's three bytes, from the first on
pub leg_piece : (a u v : ℕ) → piece 3 (leg_bytes a u v) 0 ≡ leg_bytes a u v
unfolding piece
leg_piece a u v = refl

-- ---- the chain
-- the item at point j, and its number of forward commands
abbrev at : List ℕ → ℕ → ℕ
at items j = get_or items j 0

abbrev down : Items → List ℕ → ℕ → ℕ
down F items j = k_of F (at items j)

-- its first item, with f more at most
record Next (F : Items) (items : List ℕ) (f j : ℕ) : Type 0 where
  rest : ℕ
  fewer : f ≡ suc rest
  chain : followed F items f j ≡ at items j ∷ followed F items rest (j - down F items j)
  goes : Steps F items f j → (1 ≤ down F items j) × (down F items j ≤ j) × Steps F items rest (j - down F items j)

next : (F : Items) (items : List ℕ) (f j : ℕ) → j ≤ f → 0 < j → Next F items f j
unfolding followed Steps
next F items zero zero l h = absurd (omega arith)
next F items zero (suc j) l h = absurd (omega arith)
next F items (suc f) zero l h = absurd (omega arith)
next F items (suc f) (suc j) l h = record { rest = f; fewer = refl; chain = refl; goes = λ s. s }

followed-none : (F : Items) (items : List ℕ) (f : ℕ) → followed F items f 0 ≡ []
unfolding followed
followed-none F items zero = refl
followed-none F items (suc f) = refl

plan-nil : (F : Items) → plan_in F [] ≡ []
unfolding plan_in
plan-nil F = refl

plan-cons : (F : Items) (a : ℕ) (xs : List ℕ) → plan_in F (a ∷ xs) ≡ (F a).reverse ++ plan_in F xs
unfolding plan_in
plan-cons F a xs = refl

legs-nil : (F : Items) (j : ℕ) → legs_in F j [] ≡ []
unfolding legs_in
legs-nil F j = refl

legs-cons : (F : Items) (j a : ℕ) (xs : List ℕ) → legs_in F j (a ∷ xs) ≡ leg_bytes a j (j - k_of F a) ++ legs_in F (j - k_of F a) xs
unfolding legs_in
legs-cons F j a xs = refl

sets_none : (l : List ℕ) (p : ℕ) → sets l p [] ≡ l
sets_none l p = refl

-- ---- the loop
-- at point j, after `count` items, with `left` more at most
pub record Walking (F : Items) (items : List ℕ) (i : ℕ) (plan₀ legs₀ plan legs : List ℕ) (j commands count : ℕ) : Type 0 where
  pub left : ℕ
  pub counted : count + left ≡ i
  pub room : j ≤ left
  pub steps : Steps F items left j
  pub plan_todo : sets plan commands (plan_in F (followed F items left j)) ≡ sets plan₀ 0 (plan_in F (walk F items i))
  pub legs_todo : sets legs (3 * count) (legs_in F j (followed F items left j)) ≡ sets legs₀ 0 (legs_in F i (walk F items i))
  pub commands_todo : commands + length (plan_in F (followed F items left j)) ≡ length (plan_in F (walk F items i))
  pub count_todo : count + length (followed F items left j) ≡ length (walk F items i)

walking_start : {F : Items} {items : List ℕ} {i : ℕ} {plan₀ legs₀ : List ℕ} → Walkable F items i
    → Walking F items i plan₀ legs₀ plan₀ legs₀ i 0 0
walking_start {F} {items} {i} {plan₀} {legs₀} w =
    record {
      left = i;
      counted = omega arith;
      room = omega arith;
      steps = w.steps;
      plan_todo = refl;
      legs_todo = refl;
      commands_todo = omega arith;
      count_todo = omega arith;
    }

module _ {F : Items} {items : List ℕ} {i : ℕ} {plan₀ legs₀ plan legs : List ℕ} {j commands count : ℕ}
    (g : Walking F items i plan₀ legs₀ plan legs j commands count) where
  -- the item at point j goes down, and not below 0
  step_down : 0 < j → (a k : ℕ) → a ≡ at items j → k ≡ k_of F a → (1 ≤ k) × (k ≤ j)
  step_down h a k ea ek =
      let (u, v, w) = (next F items g.left j g.room h).goes g.steps in
      let e : k ≡ down F items j = ek ∙ ap (k_of F) ea in
      (omega arith, omega arith)

  module _ (h : 0 < j) (a k r : ℕ) (ea : a ≡ at items j) (ek : k ≡ k_of F a) (er : r ≡ length (F a).reverse) where
    abbrev n : Next F items g.left j
    n = next F items g.left j g.room h

    goes : (1 ≤ down F items j) × (down F items j ≤ j) × Steps F items n.rest (j - down F items j)
    goes = n.goes g.steps

    low : j - k ≡ j - down F items j
    low = ap (λ (x : ℕ). j - x) (ek ∙ ap (k_of F) ea)

    abbrev xs : List ℕ
    xs = followed F items n.rest (j - k)

    chain : followed F items g.left j ≡ a ∷ xs
    chain =
        n.chain ∙ ap (λ (x : ℕ). x ∷ followed F items n.rest (j - down F items j)) (sym ea)
        ∙ ap (λ (x : ℕ). a ∷ followed F items n.rest x) (sym low)

    plan_is : plan_in F (followed F items g.left j) ≡ (F a).reverse ++ plan_in F xs
    plan_is = ap (plan_in F) chain ∙ plan-cons F a xs

    legs_is : legs_in F j (followed F items g.left j) ≡ leg_bytes a j (j - k) ++ legs_in F (j - k) xs
    legs_is = ap (legs_in F j) chain ∙ legs-cons F j a xs ∙ ap (λ (x : ℕ). leg_bytes a j (j - x) ++ legs_in F (j - x) xs) (sym ek)

    sizes : length (plan_in F (followed F items g.left j)) ≡ length (F a).reverse + length (plan_in F xs)
    sizes = ap (λ (x : List ℕ). length x) plan_is ∙ length-append (F a).reverse (plan_in F xs)

    module _ {plan' legs' : List ℕ} (ep : plan' ≡ sets plan commands (F a).reverse) (el : legs' ≡ sets legs (3 * count) (leg_bytes a j (j - k))) where
      plan_todo : sets plan' (commands + r) (plan_in F xs) ≡ sets plan₀ 0 (plan_in F (walk F items i))
      plan_todo =
          ap (λ (x : List ℕ). sets x (commands + r) (plan_in F xs)) ep
          ∙ sets_append plan commands (commands + r) (F a).reverse (plan_in F xs) (omega arith)
          ∙ ap (sets plan commands) (sym plan_is) ∙ g.plan_todo

      legs_todo : sets legs' (3 * (count + 1)) (legs_in F (j - k) xs) ≡ sets legs₀ 0 (legs_in F i (walk F items i))
      legs_todo =
          ap (λ (x : List ℕ). sets x (3 * (count + 1)) (legs_in F (j - k) xs)) el
          ∙ sets_append legs (3 * count) (3 * (count + 1)) (leg_bytes a j (j - k)) (legs_in F (j - k) xs) (omega arith)
          ∙ ap (sets legs (3 * count)) (sym legs_is) ∙ g.legs_todo

      walking_next : Walking F items i plan₀ legs₀ plan' legs' (j - k) (commands + r) (count + 1)
      walking_next =
          record {
            left = n.rest;
            counted = omega (arith, g.counted, n.fewer);
            room = omega (arith, g.room, n.fewer, ek, ap (k_of F) ea, goes.0);
            steps = subst (Steps F items n.rest) (sym low) goes.2;
            plan_todo = plan_todo;
            legs_todo = legs_todo;
            commands_todo = omega (arith, g.commands_todo, sizes);
            count_todo = omega (arith, g.count_todo, ap (λ (x : List ℕ). length x) chain);
          }

  -- at point 0 nothing is left
  module _ (z : j ≡ 0) where
    done : followed F items g.left j ≡ []
    done = ap (followed F items g.left) z ∙ followed-none F items g.left

    plan-done : plan_in F (followed F items g.left j) ≡ []
    plan-done = ap (plan_in F) done ∙ plan-nil F

    legs-done : legs_in F j (followed F items g.left j) ≡ []
    legs-done = ap (legs_in F j) done ∙ legs-nil F j

    walked : Walked F items i plan₀ legs₀ (record { commands = commands; legs = count }) plan legs
    walked =
        record {
          plan_is = sym (ap (sets plan commands) plan-done ∙ sets_none plan commands) ∙ g.plan_todo;
          legs_is = sym (ap (sets legs (3 * count)) legs-done ∙ sets_none legs (3 * count)) ∙ g.legs_todo;
          commands_is = omega (arith, g.commands_todo, ap (λ (x : List ℕ). length x) plan-done);
          count_is = omega (arith, g.count_todo, ap (λ (x : List ℕ). length x) done);
        }

-- ---- of any items: the bounds hold, and where the chain can be walked what is left to write gives the whole
pub record Going (F : Items) (items : List ℕ) (i : ℕ) (plan₀ legs₀ plan legs : List ℕ) (j commands count : ℕ) : Type 0 where
  pub few : count + j ≤ 32
  pub most : commands ≤ 255 * count
  pub plan-size : length plan ≡ length plan₀
  pub legs-size : length legs ≡ length legs₀
  pub walking : Walkable F items i → Walking F items i plan₀ legs₀ plan legs j commands count

pub going_start : {F : Items} {items : List ℕ} {i : ℕ} {plan₀ legs₀ : List ℕ} → i ≤ 32 → Going F items i plan₀ legs₀ plan₀ legs₀ i 0 0
going_start low = record { few = omega (arith, low); most = omega arith; plan-size = refl; legs-size = refl; walking = walking_start }

module _ {F : Items} {items : List ℕ} {i : ℕ} {plan₀ legs₀ plan legs : List ℕ} {j commands count : ℕ}
    (g : Going F items i plan₀ legs₀ plan legs j commands count) where
  -- item a has k forward and r reverse commands, and the walk goes down by s
  pub going_next : (a k s r : ℕ) → 0 < j → a ≡ at items j → k ≡ k_of F a → r ≡ length (F a).reverse → r < 256
      → (1 ≤ s) × (s ≤ j) × (1 ≤ k → k ≤ j → s ≡ k) → {plan' legs' : List ℕ} → plan' ≡ sets plan commands (F a).reverse
      → legs' ≡ sets legs (3 * count) (leg_bytes a j (j - s)) → Going F items i plan₀ legs₀ plan' legs' (j - s) (commands + r) (count + 1)
  going_next a k s r h ea ek er byte (some, room, same) {plan'} {legs'} ep el =
      record {
        few = omega (arith, g.few, some, room);
        most = omega (arith, g.most, byte);
        plan-size = ap (λ (x : List ℕ). length x) ep ∙ length-sets plan commands (F a).reverse ∙ g.plan-size;
        legs-size = ap (λ (x : List ℕ). length x) el ∙ length-sets legs (3 * count) (leg_bytes a j (j - s)) ∙ g.legs-size;
        walking = walking;
      }
    where
      walking : Walkable F items i → Walking F items i plan₀ legs₀ plan' legs' (j - s) (commands + r) (count + 1)
      walking w =
          let now = g.walking w in
          let (u, v) = step_down now h a k ea ek in
          let e = same u v in
          subst (λ (x : ℕ). Walking F items i plan₀ legs₀ plan' legs' (j - x) (commands + r) (count + 1)) (sym e)
          (walking_next now h a k r ea ek er ep (el ∙ ap (λ (x : ℕ). sets legs (3 * count) (leg_bytes a j (j - x))) e))

  pub going_done : j ≡ 0 → WalkedAs F items i plan₀ legs₀ (record { commands = commands; legs = count }) plan legs
  going_done z = record { walked = λ w. walked (g.walking w) z }
