-- The worked pages hold: by computation, and for Q by the joint table of the twelve cases, of bytes. Assumes nothing.
use mathlib.Core.Path.{◌≡◌, refl, sym, ap, ◌∙◌, subst}
use mathlib.Core.List.{List, []}
use Prim.Native.Nat.{ℕ, ◌*◌}
use native.Mathlib.Omega.{arith}
use lib.ListN.{length, take, replicate}
use Rattle.base.specs.Lists.{Written}
use Rattle.base.specs.Sizes.{LongEnough}
use Rattle.base.specs.Tests.{pick, both}
use Rattle.base.specs.Compare.{less, at_most, same}
use Rattle.base.proofs.Lists.{stored}
use Rattle.reversal.specs.Runs.{Run}
use Rattle.reversal.specs.Answers.{Answer}
use Rattle.reversal.specs.Twelve.{items_q}
use Rattle.book.specs.Example.{bytes_q}
use Rattle.checker.proofs.Cases.{accepted_q}
use Rattle.runs.specs.RunBytes.{run_bytes}
use Rattle.assembly.specs.Asked.{Asked, asked}
use Rattle.assembly.specs.declared.Assembly.{Assembly}
use Rattle.assembly.specs.Lent.{in_bytes, Room, AllLent, all_sizes}
use Rattle.assembly.specs.Assembles.{Left}
use Rattle.assembly.specs.Cases.{BytesGive}
use Rattle.assembly.proofs.Exactly.{even-bytes}
use Rattle.assembly.proofs.Cases.{runs}
use Rattle.show.specs.Show.{decimal_in, decimal, right_aligned}
use Rattle.paper.specs.declared.Paged.{Paged}
use Rattle.paper.specs.Layout.{columns, joined, line_of, lines_from, page_of}
use Rattle.paper.specs.Taken.{lines_in, fields_in, unpadded, all_digits, value_from}
use Rattle.paper.specs.Pages.{Laid, page_sizes, Pages, short, refused, laid}
use Rattle.paper.specs.Cases.{Lines, PageGiven, PageRuns}
use Rattle.paper.proofs.Legs.{one-text}

pub lines : Lines
unfolding decimal_in decimal right_aligned columns joined line_of lines_in fields_in unpadded all_digits value_from pick both less at_most same
lines = record { full = refl; full_numbered = refl; full_leg = refl; full_counted = refl; full_commands = refl }

-- the code of a case
code_of_lem : {a : Answer} {room : Room ℕ} {r : Assembly} {room' : Room ℕ} → Left in_bytes a room r room' → r.code ≡ a.code
code_of_lem w = ap (λ (x : Assembly). x.code) w.result_is

-- a case with a plan: its legs laid out
laid-text : {a : Answer} {room : Room ℕ} {r : Paged} {room' : Room ℕ} {page page' : List ℕ} → Left in_bytes a room r.assembly room'
    → length a.plan-legs ≡ a.leg-count → Laid bytes_q r room'.legs page page'
    → Written (page_of items_q a.plan-legs) page page' × (r.length ≡ length (page_of items_q a.plan-legs))
laid-text {a} {room} {r} {room'} {page} {page'} w counted d =
    let n : 3 * r.assembly.legs ≡ length (in_bytes.held a.plan-legs)
    = ap (λ (k : ℕ). 3 * k) (ap (λ (x : Assembly). x.legs) w.result_is ∙ sym counted) ∙ sym (even-bytes a.plan-legs) in
    let t = one-text d accepted_q a.plan-legs (ap (λ (k : ℕ). take k room'.legs) n ∙ w.legs_written.front) in
    (subst (λ (x : List ℕ). Written x page page') t d.written, d.length_is ∙ ap length t)

module _ (u : Run) (a : Answer) (gives : BytesGive in_bytes bytes_q u a) where
  given : a.code ≡ 0 → length a.plan-legs ≡ a.leg-count → PageGiven u (page_of items_q a.plan-legs)
  given z counted = record { written = go }
    where
      go : {l : AllLent ℕ} {page : List ℕ} {r : Paged} {l' : AllLent ℕ} {page' : List ℕ} → Pages (asked bytes_q (run_bytes u)) l page r l' page'
          → LongEnough (all_sizes in_bytes l) → LongEnough (page_sizes page)
          → Written (page_of items_q a.plan-legs) page page' × (r.length ≡ length (page_of items_q a.plan-legs))
      go (short k e i j) long h = absurd (k h)
      go (refused k x n e j) long h = absurd (n (code_of_lem (gives.left x long) ∙ z))
      go (laid k x y d) long h = laid-text (gives.left x long) counted d

  untouched : (a.code ≡ 0 → ⊥) → PageGiven u []
  untouched n = record { written = go }
    where
      go : {l : AllLent ℕ} {page : List ℕ} {r : Paged} {l' : AllLent ℕ} {page' : List ℕ} → Pages (asked bytes_q (run_bytes u)) l page r l' page'
          → LongEnough (all_sizes in_bytes l) → LongEnough (page_sizes page) → Written [] page page' × (r.length ≡ 0)
      go (short k e i j) long h = absurd (k h)
      go {page = page} {page' = page'} (refused k x m e j) long h = (stored [] page page' (omega arith) j, e)
      go (laid k x y d) long h = absurd (n (sym (code_of_lem (gives.left x long)) ∙ y))

short_page : {ask : Asked} {l : AllLent ℕ} {page : List ℕ} {r : Paged} {l' : AllLent ℕ} {page' : List ℕ} → Pages ask l page r l' page'
    → length page ≡ 1311
    → (r ≡ record { assembly = record { code = 1; place = 0; commands = 0; legs = 0; sum = 0; fewest = replicate 33 4294967295 }; length = 0 })
    × (l' ≡ l) × (page' ≡ page)
short_page (short k e i j) n = (e, i, j)
short_page (refused k x m e j) n = absurd (omega (arith, k.0))
short_page (laid k x z d) n = absurd (omega (arith, k.0))

pub page_runs : PageRuns
unfolding decimal_in decimal right_aligned columns joined line_of lines_from pick less
page_runs =
    record {
      q5 = given _ _ (runs in_bytes).q5 refl refl;
      q8 = given _ _ (runs in_bytes).q8 refl refl;
      q9 = untouched _ _ (runs in_bytes).q9 (λ e. omega arith);
      q11 = given _ _ (runs in_bytes).q11 refl refl;
      short = short_page;
    }
