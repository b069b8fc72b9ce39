-- The joint table of the twelve cases, of bytes, and the two cases with weights: by the tables of values, for what 01 and 02 say of assembling leaves
-- no other answer; the books that are refused, by checking's cases. Assumes nothing.
use mathlib.Core.Path.{◌≡◌, refl, sym, ap, ◌∙◌, subst}
use mathlib.Core.List.{List}
use Prim.Native.Nat.{ℕ}
use native.Mathlib.Omega.{arith}
use Rattle.base.specs.Lists.{Bytes}
use Rattle.base.specs.Tests.{pick}
use Rattle.base.specs.Compare.{less}
use Rattle.base.specs.Sizes.{LongEnough}
use Rattle.base.proofs.Sizes.{long_after}
use Rattle.reversal.specs.Device.{Device}
use Rattle.reversal.specs.Runs.{Run, AllowedRun}
use Rattle.reversal.specs.Answers.{Answer, Answers}
use Rattle.reversal.specs.Twelve.{Q, Gives}
use Rattle.reversal.proofs.Cases.{ok5, ok6, ok7, ok8, ok9, ok10, ok11, ok12, ok_dear, ok_even, twelve, weighted}
use Rattle.book.specs.Book.{Book, device_of, items_for}
use Rattle.book.specs.Limits.{all_below}
use Rattle.book.specs.Example.{book_q, bytes_q, book_dear, book_even, bytes_even}
use Rattle.book.proofs.Fields.{all_on}
use Rattle.book.proofs.Example.{device-book_q, device-book_dear, device-book_even}
use Rattle.book.specs.Lent.{Lent, sizes}
use Rattle.checker.specs.declared.Checking.{Checking}
use Rattle.reader.proofs.Cases.{bytes_q_lem, bytes_dear_lem}
use Rattle.checker.specs.Checks.{AcceptedBook, Checks, fine}
use Rattle.checker.specs.Cases.{Judges}
use Rattle.checker.proofs.Cases.{accepted_dear, accepted_even, accepted_q, q_checked}
use Rattle.runs.specs.RunBytes.{run_bytes}
use Rattle.assembly.specs.Asked.{asked}
use Rattle.assembly.specs.declared.Assembly.{Assembly}
use Rattle.assembly.specs.Lent.{LegForm, AllLent, room_sizes, all_sizes, in_bytes, legs_bytes}
use Rattle.assembly.specs.Assembles.{refusal, Assembles, short, unaccepted, faulty, answered}
use Rattle.assembly.specs.Demand.{Given}
use Rattle.assembly.specs.Cases.{BytesGive, BookRefused, Runs, LegRuns}
use Rattle.assembly.proofs.Unique.{left_at}

bytes_even_lem : Bytes bytes_even
unfolding all_below pick less
bytes_even_lem = all_on 256 bytes_even refl

module _ {E : Type 0} (form : LegForm E) where
  -- ---- of a book of Q's device
  module _ {s : List ℕ} (h : Bytes s) (b : Book) (accepted : AcceptedBook s b) (device : device_of b ≡ Q) where
    pub give : (u : Run) (a : Answer) → AllowedRun Q u → Answers Q b.weights (items_for b) u a → BytesGive form s u a
    give u a ok g =
        record { left = λ x long. left_at h x long given (subst (λ (d : Device). Answers d b.weights (items_for b) u a) (sym device) g) }
      where
        given : Given (asked s (run_bytes u)) b u
        given = record { accepted = accepted; allowed = subst (λ (d : Device). AllowedRun d u) (sym device) ok; bytes_of_run = refl }

  give_q : (u : Run) (a : Answer) → AllowedRun Q u → Gives u a → BytesGive form bytes_q u a
  give_q = give bytes_q_lem book_q accepted_q device-book_q

  -- where checking refuses the book, so does assembling, with its code and place
  module _ {book : List ℕ} {answer : Checking} (judges : Judges book answer) (refused : answer.code ≡ 0 → ⊥) where
    gives_code : {c : Checking} {l l' : Lent} → Checks book l c l' → LongEnough (sizes l) → c.code ≡ answer.code
    gives_code x long = ap (λ (y : Checking). y.code) (judges.result x long)

    as_checking : {run : List ℕ} {l : AllLent E} {r : Assembly} {l' : AllLent E} → Assembles form (asked book run) l r l' → LongEnough (all_sizes form l)
        → (r ≡ refusal answer.code answer.place) × (l'.room ≡ l.room)
    as_checking (short a e k) long = absurd (a long)
    as_checking {l = l} (unaccepted long' x n e w) long =
        let read-long = long_after (room_sizes form l.room) (sizes l.read) long in
        (e ∙ ap (λ (y : Checking). refusal y.code y.place) (judges.result x read-long), w)
    as_checking (faulty long' b k n e w) long = absurd (refused (sym (gives_code (fine b k refl) k.filled.long)))
    as_checking (answered long' b k u al ub an right left) long = absurd (refused (sym (gives_code (fine b k refl) k.filled.long)))

    refuse : BookRefused form book answer.code answer.place
    refuse = record { left = as_checking }

  pub runs : Runs form
  runs =
      record {
        q3 = refuse q_checked.q3 (λ e. omega arith);
        q4 = refuse q_checked.q4 (λ e. omega arith);
        q5 = give_q _ _ ok5.run twelve.q5;
        q6 = give_q _ _ ok6.run twelve.q6;
        q7 = give_q _ _ ok7.run twelve.q7;
        q8 = give_q _ _ ok8.run twelve.q8;
        q9 = give_q _ _ ok9.run twelve.q9;
        q10 = give_q _ _ ok10.run twelve.q10;
        q11 = give_q _ _ ok11.run twelve.q11;
        q12 = give_q _ _ ok12.run twelve.q12;
        more_commands = give bytes_dear_lem book_dear accepted_dear device-book_dear _ _ ok_dear.run weighted.more_commands;
        equal_sums = give bytes_even_lem book_even accepted_even device-book_even _ _ ok_even.run weighted.equal_sums;
      }

-- the legs of each as bytes
pub leg_runs : LegRuns
unfolding legs_bytes
leg_runs =
    record {
      q5 = record { written = λ x long. ((runs in_bytes).q5.left x long).legs_written };
      q6 = record { written = λ x long. ((runs in_bytes).q6.left x long).legs_written };
      q7 = record { written = λ x long. ((runs in_bytes).q7.left x long).legs_written };
      q8 = record { written = λ x long. ((runs in_bytes).q8.left x long).legs_written };
      q9 = record { written = λ x long. ((runs in_bytes).q9.left x long).legs_written };
      q10 = record { written = λ x long. ((runs in_bytes).q10.left x long).legs_written };
      q11 = record { written = λ x long. ((runs in_bytes).q11.left x long).legs_written };
      q12 = record { written = λ x long. ((runs in_bytes).q12.left x long).legs_written };
      more_commands = record { written = λ x long. ((runs in_bytes).more_commands.left x long).legs_written };
      equal_sums = record { written = λ x long. ((runs in_bytes).equal_sums.left x long).legs_written };
    }
