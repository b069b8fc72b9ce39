-- What stands at an offset of a book, and what judging it leaves to judge. Assumes nothing: these are definitions.
use Rattle.std.specs.Prelude.{◌≡◌, List, ℕ, ◌+◌, ◌≤◌, ◌<◌, length, take, drop, Option, None, Some, Result, Ok, Err}
use Rattle.octets.specs.Parts.{le_at}
use Rattle.book.specs.declared.State.{State}
use Rattle.book.specs.declared.fault.Fault.{Fault}
use Rattle.book.specs.declared.fault.Fault.TheVariants.{CutOff}
use Rattle.book.specs.Parse.{cut, fault_at, scan}
use Rattle.book.specs.Parse.Row.{End, Torn, More}
use Rattle.reader.specs.declared.scan.Head.{Head}
use Rattle.reader.specs.declared.reached.Reached.{Reached}
use Rattle.reader.specs.Judged.{Limits, rec}

-- a record stands at `at`, and what follows it
pub record Standing (s : List ℕ) (at len kind : ℕ) : Type 0 where
  pub row : cut (drop at s) ≡ More (rec kind (take len (drop (at + 4) s))) (cut (drop (at + 4 + len) s))
  pub within : at + 4 + len ≤ length s
  pub length_is : len ≡ le_at 2 s at

-- the contract of `head_at`: the end of the book, no whole record, or one
abbrev pub Stands : List ℕ → ℕ → Result (Option Head) Fault → Type 0
Stands s at (Ok None) = cut (drop at s) ≡ End
Stands s at (Ok (Some head)) = Standing s at head.len head.kind
Stands s at (Err f) = (cut (drop at s) ≡ Torn (drop at s)) × (f ≡ CutOff)

-- from `at` in state st the judgement goes on at `place` in state after
pub record Onward (s : List ℕ) (at : ℕ) (st after : State) (place : ℕ) : Type 0 where
  pub same : scan (cut (drop at s)) at st ≡ scan (cut (drop place s)) place after
  pub limits : Limits after
  pub past : at < place
  pub within : place ≤ length s
  pub place_is : place ≡ at + 4 + le_at 2 s at

-- the contract of `turn_at`: no record is left and all is judged; judging goes on; or it stops with a fault
abbrev pub Turned : List ℕ → ℕ → State → Result (Option Reached) Fault → Type 0
Turned s at st (Ok None) = (scan (cut (drop at s)) at st ≡ Ok st) × (cut (drop at s) ≡ End)
Turned s at st (Ok (Some next)) = Onward s at st next.st next.at
Turned s at st (Err f) = scan (cut (drop at s)) at st ≡ Err (fault_at f at)
