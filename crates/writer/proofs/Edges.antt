-- Writing at both sides of the limits, by the chain of tests and the book that stands in the buffers. Assumes nothing.
use mathlib.Core.Path.{◌≡◌, refl, ap, ◌∙◌, subst}
use mathlib.Core.Bool.{true}
use mathlib.Core.Logic.{inl, inr}
use mathlib.Core.List.{List}
use Prim.Native.Nat.{ℕ, ◌<◌}
use native.Mathlib.Omega.{arith}
use lib.Dec.{lit<}
use lib.ListN.{length}
use Rattle.base.specs.Lists.{Bytes, Written}
use Rattle.base.specs.Tests.{pick, both}
use Rattle.base.specs.Bounded.{seek}
use Rattle.base.specs.Compare.{less, same}
use Rattle.base.specs.Masks.{clear_from}
use Rattle.base.specs.Shorter.{any_short}
use Rattle.octets.specs.Le.{bytes_le}
use Rattle.octets.specs.Parts.{piece}
use Rattle.book.specs.Book.{frame, two_bytes, all_one, weights_recs}
use Rattle.book.specs.Limits.{device_fine, weight_fine, counts_fine, all_below, fields_fine}
use Rattle.book.specs.Lent.{Lent}
use Rattle.book.specs.Slots.{item_at, slot_fine}
use Rattle.book.specs.Buffers.{move_at, moves_from, items_from}
use Rattle.book.proofs.Fields.{all_on}
use Rattle.book.proofs.RoundTrip.{written-allowed, written-holds}
use Rattle.writer.specs.declared.Writing.{Writing}
use Rattle.writer.specs.Lowest.{lowest_weight, lowest_entry, lowest_slot}
use Rattle.writer.specs.Contract.{judgement, checked, book_bytes}
use Rattle.writer.specs.Writes.{refusal, written, Writes}
use Rattle.writer.specs.Writes.Writes.{refused}
use Rattle.writer.specs.Cases.{zeros}
use Rattle.writer.specs.Edges.{RefusedWith, WritesTo, Edges}
use Rattle.writer.proofs.Exactly.{judged, Judged, refused-is, read-long, writes_unique, held-written}
use Rattle.writer.proofs.RoundTrips.{some-code}
use Rattle.writer.proofs.Cases.{refused_by}

module _ (n m items : ℕ) (l : Lent) (b : all_below 256 l.slots ≡ true) where
  h : Bytes l.slots
  h = all_on 256 l.slots b

  refused_with : (code place : ℕ) → checked n m items l (zeros 31178) refusal (written 0) ≡ refusal code place → 0 < code
      → RefusedWith n m items l (refusal code place)
  refused_with code place e q =
      record { result = λ x. writes_unique h x (refused (refused_by n m items l (zeros 31178) code place b e q) refl refl) }

  writes_to : (book : List ℕ) → checked n m items l (zeros 31178) refusal (written 0) ≡ written 0 → book_bytes n m items l ≡ book
      → WritesTo n m items l (written (length book)) book
  writes_to book e k = record { result = λ x. go x (judged n m items l (zeros 31178) h) }
    where
      go : {r : Writing} {out' : List ℕ} → Writes n m items l (zeros 31178) r out' → Judged n m items l (zeros 31178) h
          → (r ≡ written (length book)) × Written book (zeros 31178) out'
      go x (inl (c, p, q)) =
          absurd (omega (arith, some-code q, ap (λ (w : Writing). w.code) (refused-is n m items l (zeros 31178) h refusal (written 0) q ∙ e)))
      go {r} {out'} x (inr (long, w)) =
          let v = held-written h x long (written-allowed n m items l w) (written-holds n m items l w (read-long l (zeros 31178) long) h) in
          (v.answer ∙ ap (λ (y : List ℕ). written (length y)) k, subst (λ (y : List ℕ). Written y (zeros 31178) out') k v.bytes)

pub edges : Edges
unfolding pick both seek less same clear_from any_short piece device_fine weight_fine counts_fine all_below fields_fine item_at slot_fine lowest_weight lowest_entry lowest_slot judgement frame bytes_le two_bytes all_one weights_recs move_at moves_from items_from
edges =
    record {
      uneven = writes_to _ _ _ _ refl _ refl refl;
      least = writes_to _ _ _ _ refl _ refl refl;
      most = refused_with _ _ _ _ refl _ _ refl (lit< tt);
      states_65 = refused_with _ _ _ _ refl _ _ refl (lit< tt);
      commands_33 = refused_with _ _ _ _ refl _ _ refl (lit< tt);
      items_65 = refused_with _ _ _ _ refl _ _ refl (lit< tt);
      one = refused_with _ _ _ _ refl _ _ refl (lit< tt);
      entry = refused_with _ _ _ _ refl _ _ refl (lit< tt);
      slot = refused_with _ _ _ _ refl _ _ refl (lit< tt);
      slot_k_9 = refused_with _ _ _ _ refl _ _ refl (lit< tt);
      slot_r_9 = refused_with _ _ _ _ refl _ _ refl (lit< tt);
    }
