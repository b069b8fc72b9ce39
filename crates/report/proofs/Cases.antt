-- What the program prints for Q and four of its runs: by the joint table of the twelve cases, of bytes. Assumes nothing.
use mathlib.Core.Path.{◌≡◌, refl, ap, ◌∙◌, subst}
use mathlib.Core.Bool.{true}
use mathlib.Core.List.{List}
use Prim.Native.Nat.{ℕ, ◌≤◌}
use native.Mathlib.Omega.{arith}
use lib.ListN.{length, take}
use lib.Seq.{take_all}
use Rattle.base.specs.Tests.{pick}
use Rattle.base.specs.Compare.{less, same}
use Rattle.octets.specs.Le.{bytes_le}
use Rattle.reversal.specs.Runs.{Run}
use Rattle.reversal.specs.Answers.{Answer}
use Rattle.book.specs.Book.{frame}
use Rattle.book.specs.Limits.{all_below}
use Rattle.book.specs.Example.{bytes_q}
use Rattle.book.proofs.Fields.{all_on}
use Rattle.runs.specs.RunBytes.{masks_bytes, run_bytes}
use Rattle.assembly.specs.declared.Assembly.{Assembly}
use Rattle.assembly.specs.Lent.{in_bytes, Room}
use Rattle.assembly.specs.Assembles.{Left}
use Rattle.assembly.specs.Cases.{BytesGive, Runs}
use Rattle.assembly.proofs.Exactly.{even-bytes, assembles}
use Rattle.assembly.proofs.Cases.{runs}
use Rattle.show.specs.Show.{decimal_in, decimal, line, lines_of}
use Rattle.report.specs.Prints.{Prints}
use Rattle.report.specs.Contract.{result_for}
use Rattle.report.specs.Example.{Examples}
use Rattle.report.proofs.Exactly.{Zeroed, zeros-long, zeroed}

-- the lines of what a case leaves behind
left-lines : {a : Answer} {room : Room ℕ} {r : Assembly} {room' : Room ℕ} → Left in_bytes a room r room' → a.commands ≡ length a.plan-bytes
    → lines_of a.code 0 a.commands a.leg-count a.plan-bytes ≡ lines_of r.code r.place r.commands r.legs (take r.commands room'.plan)
left-lines {a} {room} {r} {room'} l counted =
    let front : take a.commands room'.plan ≡ a.plan-bytes = ap (λ (n : ℕ). take n room'.plan) counted ∙ l.plan_written.front in
    rw (l.result_is, front)

-- what a case prints
module _ (u : Run) (a : Answer) (gives : BytesGive in_bytes bytes_q u a) (short : length (run_bytes u) ≤ 302) (bytes : all_below 256 (run_bytes u) ≡ true)
    (counted : a.commands ≡ length a.plan-bytes) where
  prints-answer : Prints bytes_q (run_bytes u) (lines_of a.code 0 a.commands a.leg-count a.plan-bytes)
  unfolding pick less all_below
  prints-answer =
      let run : take 302 (run_bytes u) ≡ run_bytes u = take_all 302 (run_bytes u) short in
      let (l, c) = zeroed bytes_q (run_bytes u) (all_on 256 bytes_q refl) (rw run (all_on 256 (run_bytes u) bytes)) in
      record {
        result = result_for bytes_q (run_bytes u);
        left = l;
        assembled = assembles even-bytes c;
        lines =
            left-lines
            (gives.left (assembles even-bytes (subst (λ (s : List ℕ). Zeroed bytes_q s (result_for bytes_q (run_bytes u)) l) run c)) zeros-long)
            counted;
      }

pub examples : Examples
unfolding decimal_in decimal line lines_of pick less same frame bytes_le masks_bytes all_below
examples =
    record {
      q5 = prints-answer _ _ cases.q5 (omega arith) refl refl;
      q8 = prints-answer _ _ cases.q8 (omega arith) refl refl;
      q9 = prints-answer _ _ cases.q9 (omega arith) refl refl;
      q11 = prints-answer _ _ cases.q11 (omega arith) refl refl;
    }
  where
    cases : Runs in_bytes
    cases = runs in_bytes
