-- `row_in` meets its contract. Assumes nothing.
use mathlib.Core.Path.{◌≡◌, refl, sym, ap, ◌∙◌}
use mathlib.Core.Bool.{false≢true}
use borrow.Author.Tests.{eqb-true}
use Rattle.std.specs.Prelude.{Option, Some, None}
use Rattle.std.specs.Option.{ok_or}
use Rattle.book.specs.Parse.{fault_at}
use Rattle.book.specs.Faults.{code_of}
use Rattle.book.specs.declared.fault.Fault.TheVariants.{NoReverse}
use Rattle.book.specs.declared.fault.FaultAt.{FaultAt}
use Rattle.finder.specs.declared.Row.{Row}
use Rattle.finder.specs.Finds.{refusal}
use Rattle.finder.specs.Searching.{found_with, found_by}
use Rattle.checker.proofs.Faults.{some_code}
use Rattle.checker.proofs.Judging.{error_is}
use Rattle.checker.proofs.Ways.{table_as}
use Rattle.finder.proofs.Ways.{within, as_refused, as_barred, as_unused, as_sought}
use Rattle.finder.proofs.Sought.row_in.Goals as goal

-- where there is no row
found_or : (row : Option Row) → found_by (ok_or row (fault_at NoReverse 0)) ≡ found_with row
found_or None = refl
found_or (Some row) = refl

pub returns-in_err-counts : goal.returns-in_err-counts
returns-in_err-counts c =
    rw (error_is c.from_residual.result c.from_residual.ensures.1) (as_refused (table_as c.in_err-counts.ensures) _ (some_code _) _ refl)

pub returns-then-not-may_be_held : goal.returns-then-not-may_be_held
returns-then-not-may_be_held c =
    as_barred (table_as c.in_ok-counts.ensures) _ refl (sym c.may_be_held.ensures ∙ c.if-not-may_be_held.true) _ (ap (λ (at : FaultAt). refusal (code_of at.fault) at.place) c.at.ensures)

pub invariant_of-within : goal.invariant_of-within
invariant_of-within c = let w = within (table_as c.in_ok-counts.ensures) refl in record { states = w.0; commands = w.1 }

pub returns-then-is_empty : goal.returns-then-is_empty
returns-then-is_empty c =
    as_unused (table_as c.in_ok-counts.ensures) _ refl (sym c.may_be_held.ensures ∙ c.if-not-may_be_held.false)
    c.keep_ends-used.ensures (eqb-true _ 0 (sym c.is_empty.ensures ∙ c.if-is_empty.true)) _
    (ap (λ (at : FaultAt). refusal (code_of at.fault) at.place) c.at-then-is_empty.ensures)

pub returns : goal.returns
returns c =
    as_sought (table_as c.in_ok-counts.ensures) _ refl (sym c.may_be_held.ensures ∙ c.if-not-may_be_held.false)
    c.keep_ends-used.ensures (λ z. false≢true (sym c.if-is_empty.false ∙ c.is_empty.ensures ∙ rw z)) _
    (ap found_by (c.ok_or.ensures.value ∙ ap (ok_or c.shortest_row.result) c.at-2.ensures) ∙ found_or c.shortest_row.result ∙ c.shortest_row.ensures)
