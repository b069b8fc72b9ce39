-- Whether an item fits, as the code tests it, is whether reversal's item fits, and what it costs is what that costs; so the links agree. Assumes
-- nothing.
use mathlib.Core.Path.{◌≡◌, refl, sym, ap, ◌∙◌}
use mathlib.Core.Bool.{Bool}
use mathlib.Core.List.{List}
use Prim.Native.Nat.{ℕ, ◌+◌, ◌-◌, ◌≤◌, ◌<◌}
use native.Mathlib.Decide.{dec_lt}
use native.Mathlib.Omega.{arith}
use borrow.Author.Tests.{lt-leb}
use lib.Dec.{eqb, eqb→eq, leb}
use lib.ListN.{length, get_or, take, drop, length-take, length-drop}
use lib.Seq.{ext_get_or, get_or-take, get_or-drop}
use Rattle.base.specs.Tests.{both}
use Rattle.base.specs.Lists.{Each}
use Rattle.base.specs.Bounded.{all}
use Rattle.base.specs.Masks.{inside}
use Rattle.base.proofs.Tests.{test_same, eq_t, both_false}
use Rattle.base.proofs.Lists.{each_at}
use Rattle.base.proofs.Bounded.{all_at, all_of}
use Rattle.reversal.specs.Device.{Device}
use Rattle.reversal.specs.Reversal.{Item, AllowedItem}
use Rattle.reversal.specs.Runs.{Run, last, command}
use Rattle.reversal.specs.Weights.{sum_of}
use Rattle.reversal.specs.Chains.{absent, item}
use Rattle.reversal.specs.Computed.Beliefs.{belief}
use Rattle.reversal.specs.Computed.Assembly.{same_list, fits, links}
use Rattle.reversal.proofs.Weights.{sum_same}
use Rattle.reversal.proofs.Fitting.{same-eq, eq-same}
use Rattle.runs.specs.Computed.{command_of}
use Rattle.points.specs.Items.{Items, ItemsOf, WeightsOf}
use Rattle.points.specs.Links.{same_at, fits_at, links_of}
use Rattle.points.proofs.LinksAgree.{Agree}

module _ (d : Device) (r : Run) (items : List Item) (F : Items) (fields : ItemsOf items F) (s sets : List ℕ)
    (commands : (y : ℕ) → y < last r → command_of s y ≡ command r y) (beliefs : (y : ℕ) → y ≤ last r → get_or sets y 0 ≡ belief d r y) where
  -- ---- one item
  module _ (a j : ℕ) (known : a < length items) (below : j ≤ last r) where
    abbrev x : Item
    x = F a

    abbrev low : ℕ
    low = j - length x.forward

    -- the run's commands below point j
    abbrev part : List ℕ
    part = take (length x.forward) (drop low r.commands)

    module _ (room : length x.forward ≤ j) where
      part_length : length part ≡ length x.forward
      part_length = omega (arith, length-take (length x.forward) (drop low r.commands), length-drop low r.commands)

      -- command y of the part is that of the run's bytes
      part_at : (y : ℕ) → y < length x.forward → get_or part y 0 ≡ command_of s (low + y)
      part_at y l =
          get_or-take (length x.forward) (drop low r.commands) y 0 l ∙ get_or-drop low r.commands y 0 ∙ sym (commands (low + y) (omega arith))

      same-is : same_at x s j ≡ same_list part x.forward
      unfolding same_at
      same-is =
          test_same (all f (length x.forward)) (same_list part x.forward)
          (λ t.
          eq-same part x.forward
          (ext_get_or 0 part x.forward part_length
          (λ y l.
          let b : y < length x.forward = omega (arith, part_length) in
          part_at y b ∙ sym (eqb→eq _ _ (all_at f (length x.forward) t y b)))))
          (λ t. all_of f (length x.forward) (λ y b. eq_t (ap (λ (l : List ℕ). get_or l y 0) (sym (same-eq part x.forward t)) ∙ part_at y b)))
        where
          f : ℕ → Bool
          f y = eqb (get_or x.forward y 0) (command_of s (low + y))

    fits-same : fits_at x s sets j ≡ fits d r (item items a) j
    unfolding fits_at fits
    fits-same = go (dec_lt j (length x.forward)) ∙ ap (λ (v : Item). fits d r v j) (fields a known)
      where
        go : Dec (j < length x.forward)
            → both (leb (length x.forward) j)
            (both (same_at x s j) (both (inside (get_or sets j 0) x.phi) (inside (get_or sets low 0) x.psi)))
            ≡ both (leb (length x.forward) j)
            (both (same_list part x.forward) (both (inside (belief d r j) x.phi) (inside (belief d r low) x.psi)))
        go (yes h) = rw (lt-leb (length x.forward) j h) (both_false _ ∙ sym (both_false _))
        go (no h) = rw (same-is (omega arith), beliefs j below, beliefs low (omega arith))

  -- ---- all items
  pub links_agree : Each (AllowedItem d) items → (ws W : List ℕ) → WeightsOf d.m ws W
      → Agree (last r) (links_of F W s sets (length items)) (links d ws r items)
  links_agree each ws W weigh =
      record {
        count_same = refl;
        top-same = refl;
        k-same = λ a l. ap (λ (x : Item). length x.forward) (fields a l);
        price-same = λ a l.
            ap (λ (x : Item). sum_of W x.reverse) (fields a l)
            ∙ sum_same W ws d.m weigh (item items a).reverse (each_at (AllowedItem d) items each a absent l).reverse_commands;
        fit_same = fits-same;
      }
