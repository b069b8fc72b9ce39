-- Rows: what a look-up by one gives, and a row with one command more. Assumes nothing.
use mathlib.Core.Path.{◌≡◌, refl, sym, ap, ap₂, ◌∙◌}
use mathlib.Core.List.{List, [], ◌∷◌}
use mathlib.Core.Logic.{◌⊎◌, ⊎_elim}
use Prim.Native.Nat.{ℕ, zero, suc, ◌+◌, ◌*◌, ◌/◌, ◌%◌, ◌^◌, ◌≤◌, ◌<◌}
use native.Mathlib.Decide.{dec_lt}
use native.Mathlib.Omega.{arith}
use lib.Bits.{bit_or, bit_and, and_mask, or_shr, or_mod, or_zero_r}
use lib.ListN.{get_or, set, drop}
use lib.Pow.{pow-add, shl-shr, shr-shr}
use Rattle.base.specs.Sets.{In}
use Rattle.base.specs.Tests.{pick}
use Rattle.base.specs.Compare.{less}
use Rattle.base.specs.Cardinality.{member, cardinality}
use Rattle.base.proofs.Tests.{pick_yes, pick_no}
use Rattle.base.proofs.Picks.{pick_elim, less_yes}
use Rattle.base.proofs.Compare.{less_on, less_off}
use Rattle.base.proofs.Masks.{member_in, in_member, in_zero, shl_one, below_clear, or_in, in_or_l}
use Rattle.base.proofs.Added.{cardinality-above, cardinality-zero, one_more_in, one_more_below, one_more_above}
use Rattle.octets.specs.Parts.{whole_at}
use Rattle.moves.specs.Moves.{mask_at, moved_to, with_move, move_added}

-- ---- the look-up
module _ (s : List ℕ) (row c : ℕ) where
  pub moved_in : In (row / 65536) c → moved_to s row c ≡ whole_at s (mask_at row c)
  unfolding moved_to
  moved_in h = pick_yes (member (row / 65536) c) _ 0 (in_member (row / 65536) c h)

  pub moved_none : (In (row / 65536) c → ⊥) → moved_to s row c ≡ 0
  unfolding moved_to
  moved_none f = pick_no (member (row / 65536) c) _ 0 (λ t. f (member_in (row / 65536) c t))

  -- as the code has it
  pub no_command : 48 ≤ c → row < 2 ^ 64 → 0 ≡ moved_to s row c
  no_command l h = sym (moved_none (λ i. omega (arith, below_clear 48 (row / 65536) (omega arith) c i)))

  -- (row >> (16 + c)) & 1
  bit_is : bit_and (row / 2 ^ (16 + c)) 1 ≡ row / 65536 / 2 ^ c % 2
  bit_is = rw (← shr-shr row 16 c) (and_mask (row / 65536 / 2 ^ c) 1)

  pub not_found : (bit_and (row / 2 ^ (16 + c)) 1 ≡ 1 → ⊥) → 0 ≡ moved_to s row c
  not_found f = sym (moved_none (λ h. f (bit_is ∙ h)))

  pub found : (r k : ℕ) → bit_and (row / 2 ^ (16 + c)) 1 ≡ 1 → k ≡ cardinality c (row / 65536) → r ≡ whole_at s (row % 65536 + 14 * k) → r ≡ moved_to s row c
  found r k h n e = e ∙ (ap (λ (i : ℕ). whole_at s (row % 65536 + 14 * i)) n ∙ sym (moved_in (sym bit_is ∙ h)))

-- ---- a row with one command more
module _ (row place c : ℕ) where
  abbrev row' : ℕ
  row' = with_move row place c

  -- the row that the command is added to
  abbrev begun : ℕ
  begun = pick (less row 65536) place row

  bit_high : 2 ^ (16 + c) / 2 ^ 16 ≡ 2 ^ c
  bit_high = let e : 16 + c ≡ c + 16 = omega arith in rw (e, pow-add 2 c 16) (shl-shr (2 ^ c) 16)

  bit_low : 2 ^ (16 + c) % 2 ^ 16 ≡ 0
  bit_low = let e : 16 + c ≡ c + 16 = omega arith in rw (e, pow-add 2 c 16) (omega arith)

  low_bits : row' % 65536 ≡ begun % 65536
  unfolding with_move
  low_bits = or_mod begun (2 ^ (16 + c)) 16 ∙ rw bit_low (or_zero_r (begun % 65536))

  begun-low : row < 65536 → begun ≡ place
  begun-low l = pick_elim (λ (x : ℕ). x ≡ place) (less row 65536) place row (λ e. refl) (λ e. absurd (omega (arith, less_off row 65536 e)))

  begun-high : 65536 ≤ row → begun ≡ row
  begun-high l = pick_elim (λ (x : ℕ). x ≡ row) (less row 65536) place row (λ e. absurd (omega (arith, less_on row 65536 e))) (λ e. refl)

  -- as the code has it
  module _ (l : c < 32) where
    pub row-begun : (x : ℕ) → (row < 65536 → x ≡ place) → (65536 ≤ row → x ≡ row) → bit_or x (1 * 2 ^ (16 + c) % 2 ^ 64) ≡ row'
    unfolding with_move
    row-begun x f g =
        rw (shl_one (16 + c) (omega arith)) (ap (λ (y : ℕ). bit_or y (2 ^ (16 + c))) (is (dec_lt row 65536)))
      where
        is : Dec (row < 65536) → x ≡ begun
        is (yes h) = f h ∙ sym (begun-low h)
        is (no h) = g (omega arith) ∙ sym (begun-high (omega arith))

  module _ (small : place < 65536) where
    begun-commands : begun / 65536 ≡ row / 65536
    begun-commands =
        pick_elim (λ (x : ℕ). x / 65536 ≡ row / 65536) (less row 65536) place row (λ e. omega (arith, less_on row 65536 e)) (λ e. refl)

    -- its commands are those of the row, and c
    commands : row' / 65536 ≡ bit_or (row / 65536) (2 ^ c)
    unfolding with_move
    commands = or_shr begun (2 ^ (16 + c)) 16 ∙ ap₂ bit_or begun-commands bit_high

    pub added_in : In (row' / 65536) c
    added_in = rw commands (one_more_in (row / 65536) c)

    pub kept_in : (i : ℕ) → In (row / 65536) i → In (row' / 65536) i
    kept_in i h = rw commands (in_or_l (row / 65536) (2 ^ c) i h)

    pub in_added : (i : ℕ) → In (row' / 65536) i → In (row / 65536) i ⊎ In (2 ^ c) i
    in_added i h = or_in (row / 65536) (2 ^ c) i (rw commands at h)

    -- the commands of the row come before c
    module _ (before : (i : ℕ) → In (row / 65536) i → i < c) where
      -- a command of the row is found where it was
      pub place_kept : (i : ℕ) → In (row / 65536) i → mask_at row' i ≡ mask_at row i
      place_kept i h =
          let started : 65536 ≤ row = go (dec_lt row 65536) in
          ap₂ (λ (x y : ℕ). x + 14 * y) (low_bits ∙ ap (λ (x : ℕ). x % 65536) (begun-high started))
          (ap (cardinality i) commands ∙ one_more_below (row / 65536) c i (omega (arith, before i h)))
        where
          go : Dec (row < 65536) → 65536 ≤ row
          go (yes l) = let z : row / 65536 ≡ 0 = omega arith in absurd (in_zero i (rw z at h))
          go (no f) = omega arith

      module _ (m : ℕ) (l : c < m) (next : (row < 65536) ⊎ (mask_at row m ≡ place)) where
        -- command c is found at the place
        pub place_added : mask_at row' c ≡ place
        place_added = rw (low_bits, commands, one_more_below (row / 65536) c c (omega arith)) (go (dec_lt row 65536))
          where
            go : Dec (row < 65536) → begun % 65536 + 14 * cardinality c (row / 65536) ≡ place
            go (yes f) =
                let z : row / 65536 ≡ 0 = omega arith in
                rw (begun-low f, z) (omega (arith, cardinality-zero c))
            go (no f) =
                let h : 65536 ≤ row = omega arith in
                rw (begun-high h, ← cardinality-above (row / 65536) c m before (omega arith))
                (⊎_elim (λ (k : row < 65536). absurd (f k)) (λ (e : mask_at row m ≡ place). e) next)

        -- and the next one 14 bytes further
        pub place_next : mask_at row' m ≡ place + 14
        place_next =
            let w = row / 65536 in
            omega
            (arith, place_added, ap (cardinality m) commands, ap (cardinality c) commands, one_more_above w c m before l, one_more_below w c c (omega arith))

-- ---- the masks with one move more, as the code has them
module _ (s : List ℕ) (at : ℕ) (masks : List ℕ) (q c : ℕ) where
  pub not-stored : q ≡ get_or s (at + 4) 0 → c ≡ get_or s (at + 5) 0 → (c < 32 → q < 64 → ⊥) → masks ≡ move_added s at masks
  unfolding move_added
  not-stored p e f =
      pick_elim (λ (l : List ℕ). masks ≡ l) (less (get_or s (at + 5) 0) 32) _ masks
      (λ k.
      pick_elim (λ (l : List ℕ). masks ≡ l) (less (get_or s (at + 4) 0) 64) _ masks
      (λ h. absurd (f (rw e (less_on (get_or s (at + 5) 0) 32 k)) (rw p (less_on (get_or s (at + 4) 0) 64 h)))) (λ _. refl)) (λ _. refl)

  pub row-stored : (r : ℕ) (masks' : List ℕ) → q ≡ get_or s (at + 4) 0 → c ≡ get_or s (at + 5) 0 → c < 32 → q < 64
      → r ≡ with_move (get_or masks q 0) (at + 6) c → masks' ≡ set masks q r → masks' ≡ move_added s at masks
  unfolding move_added
  row-stored r masks' p e h h' f k = less_yes _ _ _ _ _ (rw e at h) (less_yes _ _ _ _ _ (rw p at h') (k ∙ rw (f, p, e)))

-- what lies past the 64 stays
drop-set : (k : ℕ) (l : List ℕ) (i v : ℕ) → i < k → drop k (set l i v) ≡ drop k l
drop-set zero l i v h = absurd (omega arith)
drop-set (suc k) [] i v h = refl
drop-set (suc k) (x ∷ l) zero v h = refl
drop-set (suc k) (x ∷ l) (suc i) v h = drop-set k l i v (omega arith)

pub rest_stays : (s : List ℕ) (at : ℕ) (masks : List ℕ) → drop 64 (move_added s at masks) ≡ drop 64 masks
unfolding move_added
rest_stays s at masks =
    pick_elim (λ (l : List ℕ). drop 64 l ≡ drop 64 masks) (less (get_or s (at + 5) 0) 32) _ masks
    (λ _.
    pick_elim (λ (l : List ℕ). drop 64 l ≡ drop 64 masks) (less (get_or s (at + 4) 0) 64) _ masks
    (λ e. drop-set 64 masks (get_or s (at + 4) 0) _ (less_on (get_or s (at + 4) 0) 64 e)) (λ _. refl)) (λ _. refl)
