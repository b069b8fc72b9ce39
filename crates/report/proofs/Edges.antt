-- What the program prints at both sides of its limits and for each code: by the cases of assembling. Assumes nothing.
use mathlib.Core.Path.{◌≡◌, refl, ap, ◌∙◌, subst}
use mathlib.Core.Bool.{true}
use mathlib.Core.List.{List, []}
use Prim.Native.Nat.{ℕ}
use native.Mathlib.Omega.{arith}
use lib.ListN.{length, take, replicate, length-replicate}
use Rattle.base.specs.Tests.{pick, both}
use Rattle.base.specs.Compare.{less, at_most, same, differ}
use Rattle.octets.specs.Le.{bytes_le}
use Rattle.reversal.specs.Runs.{Run}
use Rattle.book.specs.Book.{frame, two_bytes, all_one, weights_recs}
use Rattle.book.specs.Limits.{all_below}
use Rattle.book.specs.Parse.{parse, cut_after, scan, kind_of, step}
use Rattle.book.specs.Refusal.{Refusal}
use Rattle.book.proofs.Fields.{all_on}
use Rattle.book.proofs.Example.{spoilt, spoilt_by}
use Rattle.reader.specs.Reads.{faulty}
use Rattle.reader.proofs.Edges.{stated-long}
use Rattle.checker.specs.Checks.{unread}
use Rattle.runs.specs.RunBytes.{masks_bytes, run_bytes}
use Rattle.assembly.specs.Asked.{asked}
use Rattle.assembly.specs.declared.Assembly.{Assembly}
use Rattle.assembly.specs.Lent.{in_bytes, AllLent}
use Rattle.assembly.specs.Assembles.{refusal, Assembles, unaccepted}
use Rattle.assembly.specs.Edges.{AllStated, Gives, Keeps, Edges as Cases}
use Rattle.assembly.proofs.Exactly.{even-bytes, assembles}
use Rattle.assembly.proofs.Edges.{edges as cases_of}
use Rattle.show.specs.Show.{decimal_in, decimal, line, lines_of}
use Rattle.report.specs.Prints.{zeros, Prints}
use Rattle.report.specs.Contract.{result_for}
use Rattle.report.specs.Edges.{unknown, Edges}
use Rattle.report.proofs.Exactly.{zeros-long, zeroed}

cases : Cases in_bytes 96 95
cases = cases_of in_bytes refl refl

zeros-stated : AllStated 96 zeros
zeros-stated =
    record {
      read = record { table = held 2048; slots = held 2176; weights = held 32 };
      room = record { plan = held 256; legs = held 96 };
    }
  where
    held : (n : ℕ) → length {A = ℕ} (replicate n 0) ≡ n
    held n = length-replicate {A = ℕ} n 0

-- what reading refuses
prints-read : {book run : List ℕ} {code place : ℕ} → Refusal (take 31179 book) code place → (code ≡ 0 → ⊥) → Prints book run (lines_of code place 0 0 [])
prints-read {code = code} {place} g n =
    record {
      result = refusal code place;
      left = zeros;
      assembled =
          unaccepted zeros-long (unread (faulty (stated-long zeros-stated.read) g refl refl) n refl) n refl refl;
      lines = refl;
    }

module _ (book run : List ℕ) (b : all_below 256 (take 31179 book) ≡ true) (u : all_below 256 (take 302 run) ≡ true) where
  done : (l : AllLent ℕ) × Assembles in_bytes (asked (take 31179 book) (take 302 run)) zeros (result_for book run) l
  done = let (l, c) = zeroed book run (all_on 256 _ b) (all_on 256 _ u) in (l, assembles even-bytes c)

  -- a refusal that leaves the plan
  prints-kept : {a : Assembly} → Keeps in_bytes 96 (take 31179 book) (take 302 run) a
      → Prints book run (lines_of a.code a.place a.commands a.legs (take a.commands zeros.room.plan))
  prints-kept k =
      let (l, x) = done in
      let (e, w) = k.result x zeros-stated in
      record { result = result_for book run; left = l; assembled = x; lines = rw (e, w) refl }

  -- a plan
  prints-given : {v : Run} {a : Assembly} {plan legs : List ℕ} → Gives in_bytes 96 (take 31179 book) v a plan legs → take 302 run ≡ run_bytes v
      → a.commands ≡ length plan → Prints book run (lines_of a.code a.place a.commands a.legs plan)
  prints-given {v} {a} {plan} g same-run counted =
      let (l, x) = done in
      let (e, p, q) = g.result (subst (λ (s : List ℕ). Assembles in_bytes (asked (take 31179 book) s) zeros (result_for book run) l) same-run x) zeros-stated in
      let front : take a.commands l.room.plan ≡ plan = ap (λ (n : ℕ). take n l.room.plan) counted ∙ p.front in
      record { result = result_for book run; left = l; assembled = x; lines = rw (e, front) refl }

-- the records of an unknown kind, one that is there whole and one that is cut off
whole : Refusal (take 31179 (unknown 199 121 31175)) 3 0
unfolding all_below pick both less at_most same differ parse cut_after scan kind_of step
whole = spoilt_by _ 3 0 refl refl

cut_off : Refusal (take 31179 (unknown 200 121 31176)) 2 0
unfolding all_below pick both less at_most same differ parse cut_after scan kind_of step
cut_off = spoilt_by _ 2 0 refl refl

pub edges : Edges
unfolding decimal_in decimal line lines_of pick both less same frame bytes_le two_bytes all_one weights_recs masks_bytes all_below
edges =
    record {
      byte_31179 = prints-read whole (λ e. omega arith);
      byte_31180 = prints-read cut_off (λ e. omega arith);
      run_of_301 = prints-given _ _ refl refl cases.long refl refl;
      run_of_302 = prints-kept _ _ refl refl cases.nine_302;
      ten = prints-given _ _ refl refl cases.q10 refl refl;
      nine = prints-kept _ _ refl refl cases.nine;
      two = prints-read spoilt.empty (λ e. omega arith);
      two_at_201 = prints-read spoilt.cut_off (λ e. omega arith);
      three = prints-read spoilt.run_in_book (λ e. omega arith);
      four = prints-read spoilt.counts_missing (λ e. omega arith);
      five = prints-read spoilt.counts_are_out (λ e. omega arith);
      six = prints-read spoilt.repeated (λ e. omega arith);
      seven = prints-read spoilt.item_65 (λ e. omega arith);
      thirteen = prints-read spoilt.only_ones (λ e. omega arith);
      eight = prints-kept _ _ refl refl cases.eight;
      twelve = prints-kept _ _ refl refl cases.twelve;
      uneven = prints-given _ _ refl refl cases.uneven refl refl;
    }
