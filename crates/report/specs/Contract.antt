-- The text for a book's and a run's bytes, computed. proofs/Exactly ties it to specs/Prints. Assumes nothing: these are definitions.
use Rattle.std.specs.Prelude.{◌≡◌, List, ℕ, ◌≤◌, length, take}
use Rattle.std.proofs.lemmas.List.Edits.{sets}
use Rattle.base.specs.Lists.{Bytes}
use Rattle.assembly.specs.Asked.{asked}
use Rattle.assembly.specs.declared.Assembly.{Assembly}
use Rattle.assembly.specs.Lent.{in_bytes}
use Rattle.assembly.specs.Assembles.{refusal, result_of}
use Rattle.assembly.specs.Contract.{plan_by, room_of}
use Rattle.show.specs.Show.{lines_of, planned}
use Rattle.report.specs.Prints.{zeros}

-- what assembling answers for the bytes that are judged
abbrev pub result_for : List ℕ → List ℕ → Assembly
result_for book run = plan_by (asked (take 31179 book) (take 302 run)) refusal result_of

-- the plan buffer at exit
abbrev pub plan_for : List ℕ → List ℕ → List ℕ
plan_for book run = (plan_by (asked (take 31179 book) (take 302 run)) (λ code place. zeros.room) (room_of in_bytes zeros.room)).plan

abbrev pub lines_for : Assembly → List ℕ → List ℕ
lines_for r plan = lines_of r.code r.place r.commands r.legs (planned r.commands plan)

unfoldable pub text_of : List ℕ → List ℕ → List ℕ
text_of book run = lines_for (result_for book run) (plan_for book run)

-- the contract of `report`
pub record ReportAs (book run out : List ℕ) (r : ℕ) (out' : List ℕ) : Type 0 where
  pub bytes : Bytes (take 31179 book)
  pub bytes_of_run : Bytes (take 302 run)
  pub size : r ≡ length (text_of book run)
  pub most : r ≤ 5461
  pub stored : out' ≡ sets out 0 (text_of book run)
