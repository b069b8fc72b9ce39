-- The ways through the tests of a slot: k and r are judged first, then the fields, then the unused command bytes. Assumes nothing.
use mathlib.Core.Path.{◌≡◌, refl, sym, ap, ap₂, ◌∙◌}
use mathlib.Core.Bool.{Bool, true, false, not}
use mathlib.Core.List.{List}
use Prim.Native.Nat.{ℕ, ◌+◌, ◌-◌, ◌*◌, ◌≤◌, ◌<◌}
use native.Mathlib.Omega.{arith}
use borrow.Author.Tests.{not-false}
use lib.ListN.{length, get_or, take, drop}
use Rattle.base.proofs.Picks.{less_yes, less_no, call_yes, call_no}
use Rattle.reversal.specs.Reversal.{Item}
use Rattle.octets.specs.Parts.{le_at, piece}
use Rattle.octets.proofs.Put.{piece-take}
use Rattle.book.specs.Limits.{counts_fine, all_below, fields_fine, item_with}
use Rattle.book.specs.Slots.{item_at, unused, slot_fine}
use Rattle.book.proofs.Limits.{counts_on}
use Rattle.slots.proofs.Laws.{k_is, r_is}

module _ (n m : ℕ) (s : List ℕ) (a : ℕ) where
  abbrev q : ℕ
  q = 34 * a

  abbrev x : Item
  x = item_at s a

  pub too_short : length s < q + 34 → false ≡ slot_fine n m s a
  unfolding slot_fine
  too_short h = less_yes _ _ _ (length s) (q + 34) h refl

  -- k and r are read, and judged by b
  module _ (room : q + 34 ≤ length s) (k r : ℕ) (ek : k ≡ get_or s q 0) (er : r ≡ get_or s (q + 1) 0) (b : Bool) (eb : b ≡ counts_fine k r) where
    counts : b ≡ counts_fine (length x.forward) (length x.reverse)
    counts = eb ∙ ap₂ counts_fine (k_is s a k ek) (r_is s a r er)

    pub counts_wrong : not b ≡ true → false ≡ slot_fine n m s a
    unfolding slot_fine
    counts_wrong h = less_no _ _ _ (length s) (q + 34) room (call_yes _ _ _ _ b counts h refl)

    module _ (ok : not b ≡ false) where
      counts_low : (1 ≤ k) × (k ≤ 8) × (r ≤ 8)
      counts_low = counts_on k r (sym eb ∙ not-false _ ok)

      -- a part that is lent is a piece
      lent : (c p e : ℕ) → p + c ≡ e → e ≤ length s → take (e - p) (drop p s) ≡ piece c s p
      lent c p e h l =
          let w : e - p ≡ c = omega arith in
          ap (λ (i : ℕ). take i (drop p s)) w ∙ sym (piece-take c s p (omega arith))

      -- the fields are judged by f
      module _ (phi psi : ℕ) (ep : phi ≡ le_at 8 s (q + 18)) (eq : psi ≡ le_at 8 s (q + 26)) (f : Bool)
          (ef : f ≡ fields_fine n m (item_with (take (q + 2 + k - (q + 2)) (drop (q + 2) s)) (take (q + 10 + r - (q + 10)) (drop (q + 10) s)) phi psi)) where
        fields : f ≡ fields_fine n m x
        unfolding item_at
        fields =
            let (some, most, reverse_most) = counts_low in
            ef
            ∙ rw (
              lent k (q + 2) (q + 2 + k) (omega arith) (omega arith),
              lent r (q + 10) (q + 10 + r) (omega arith) (omega arith),
              ek,
              er,
              ep,
              eq,
            )

        pub fields_wrong : not f ≡ true → false ≡ slot_fine n m s a
        unfolding slot_fine
        fields_wrong h = less_no _ _ _ (length s) (q + 34) room (call_no _ _ _ _ b counts ok (call_yes _ _ _ _ f fields h refl))

        -- the unused forward bytes are judged by g
        module _ (fine : not f ≡ false) (g : Bool) (eg : g ≡ all_below 1 (take (q + 10 - (q + 2 + k)) (drop (q + 2 + k) s))) where
          rest : g ≡ all_below 1 (unused (length x.forward) s (q + 2))
          rest =
              let (some, most, reverse_most) = counts_low in
              eg
              ∙ ap (all_below 1) (lent (8 - k) (q + 2 + k) (q + 10) (omega arith) (omega arith))
              ∙ ap (λ (j : ℕ). all_below 1 (unused j s (q + 2))) (k_is s a k ek)

          pub unused-wrong : not g ≡ true → false ≡ slot_fine n m s a
          unfolding slot_fine
          unused-wrong h =
              less_no _ _ _ (length s) (q + 34) room (call_no _ _ _ _ b counts ok (call_no _ _ _ _ f fields fine (call_yes _ _ _ _ g rest h refl)))

          pub unused_decides : not g ≡ false → (y : Bool) → y ≡ all_below 1 (take (q + 18 - (q + 10 + r)) (drop (q + 10 + r) s)) → y ≡ slot_fine n m s a
          unfolding slot_fine
          unused_decides h y ey =
              let (some, most, reverse_most) = counts_low in
              less_no _ _ _ (length s) (q + 34) room
              (call_no _ _ _ _ b counts ok
              (call_no _ _ _ _ f fields fine
              (call_no _ _ _ _ g rest h
              (ey
              ∙ ap (all_below 1) (lent (8 - r) (q + 10 + r) (q + 18) (omega arith) (omega arith))
              ∙ ap (λ (j : ℕ). all_below 1 (unused j s (q + 10))) (r_is s a r er)))))
