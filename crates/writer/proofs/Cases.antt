-- Writing's refusals on worked tables, slots and weights, by the chain of tests. Assumes nothing.
use mathlib.Core.Path.{◌≡◌, refl, ap, ◌∙◌, subst₂}
use mathlib.Core.Bool.{true}
use mathlib.Core.Logic.{inl, inr}
use mathlib.Core.List.{List}
use Prim.Native.Nat.{ℕ, ◌<◌}
use native.Mathlib.Omega.{arith}
use lib.Dec.{lit<}
use Rattle.base.specs.Lists.{Bytes}
use Rattle.base.specs.Tests.{pick, both}
use Rattle.base.specs.Bounded.{seek}
use Rattle.base.specs.Compare.{less}
use Rattle.base.specs.Masks.{clear_from}
use Rattle.base.specs.Shorter.{any_short}
use Rattle.octets.specs.Parts.{piece}
use Rattle.book.specs.Limits.{device_fine, weight_fine, counts_fine, all_below, fields_fine}
use Rattle.book.specs.Lent.{Lent}
use Rattle.book.specs.Slots.{item_at, slot_fine}
use Rattle.book.proofs.Fields.{all_on}
use Rattle.writer.specs.declared.Writing.{Writing}
use Rattle.writer.specs.Lowest.{lowest_weight, lowest_entry, lowest_slot}
use Rattle.writer.specs.Contract.{judgement, checked}
use Rattle.writer.specs.Writes.{Refuses, refusal, written}
use Rattle.writer.specs.Cases.{Spoilt}
use Rattle.writer.proofs.Exactly.{judged, Judged, refused-is, fine-is}

pub refused_by : (n m items : ℕ) (l : Lent) (out : List ℕ) (code place : ℕ) → all_below 256 l.slots ≡ true
    → checked n m items l out refusal (written 0) ≡ refusal code place → 0 < code → Refuses n m items l out code place
refused_by n m items l out code place b e q = go (judged n m items l out h)
  where
    h : Bytes l.slots
    h = all_on 256 l.slots b

    go : Judged n m items l out h → Refuses n m items l out code place
    go (inl (c, p, q)) =
        let r : refusal c p ≡ refusal code place = refused-is n m items l out h refusal (written 0) q ∙ e in
        subst₂ (λ (x y : ℕ). Refuses n m items l out x y) (ap (λ (w : Writing). w.code) r) (ap (λ (w : Writing). w.place) r) q
    go (inr (long, w)) =
        let r : written 0 ≡ refusal code place = fine-is n m items l out h refusal (written 0) long w ∙ e in
        absurd (omega (arith, ap (λ (w : Writing). w.code) r))

pub spoilt : Spoilt
unfolding pick both seek less clear_from any_short piece device_fine weight_fine counts_fine all_below fields_fine item_at slot_fine lowest_weight lowest_entry lowest_slot judgement
spoilt =
    record {
      short_table = refused_by _ _ _ _ _ _ _ refl refl (lit< tt);
      short_slots = refused_by _ _ _ _ _ _ _ refl refl (lit< tt);
      short_weights = refused_by _ _ _ _ _ _ _ refl refl (lit< tt);
      short_output = refused_by _ _ _ _ _ _ _ refl refl (lit< tt);
      no_states = refused_by _ _ _ _ _ _ _ refl refl (lit< tt);
      states_65 = refused_by _ _ _ _ _ _ _ refl refl (lit< tt);
      no_commands = refused_by _ _ _ _ _ _ _ refl refl (lit< tt);
      commands_33 = refused_by _ _ _ _ _ _ _ refl refl (lit< tt);
      count_65 = refused_by _ _ _ _ _ _ _ refl refl (lit< tt);
      weight_1 = refused_by _ _ _ _ _ _ _ refl refl (lit< tt);
      weight_2 = refused_by _ _ _ _ _ _ _ refl refl (lit< tt);
      entry_2 = refused_by _ _ _ _ _ _ _ refl refl (lit< tt);
      slot_1 = refused_by _ _ _ _ _ _ _ refl refl (lit< tt);
      unused_byte = refused_by _ _ _ _ _ _ _ refl refl (lit< tt);
    }
