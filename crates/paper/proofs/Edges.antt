-- The call that assembles on paper at both sides of the page's length, and each of its codes: by the cases of assembling. Assumes nothing.
use mathlib.Core.Path.{◌≡◌, refl, sym, ap, ap₂, ◌∙◌}
use mathlib.Core.Bool.{true}
use mathlib.Core.List.{List}
use Prim.Native.Nat.{ℕ, ◌*◌}
use native.Mathlib.Omega.{arith}
use lib.ListN.{length}
use Rattle.base.specs.Sizes.{LongEnough}
use Rattle.base.specs.Tests.{pick, both}
use Rattle.base.specs.Compare.{less, same}
use Rattle.octets.specs.Le.{bytes_le}
use Rattle.reversal.specs.Runs.{Run}
use Rattle.book.specs.Book.{frame, two_bytes, all_one, weights_recs}
use Rattle.book.specs.Limits.{all_below}
use Rattle.book.proofs.Fields.{all_on}
use Rattle.runs.specs.RunBytes.{run_bytes}
use Rattle.assembly.specs.Asked.{asked}
use Rattle.assembly.specs.declared.Assembly.{Assembly}
use Rattle.assembly.specs.Lent.{in_bytes, AllLent}
use Rattle.assembly.specs.Assembles.{refusal, Assembles}
use Rattle.assembly.specs.Edges.{AllStated, AnyShorter, Gives, Edges as Cases}
use Rattle.assembly.proofs.Edges.{edges as cases_of}
use Rattle.paper.specs.declared.Paged.{Paged}
use Rattle.paper.specs.Pages.{page_sizes, Pages, short, refused, laid}
use Rattle.paper.specs.Edges.{PageAnswers, PageKept, Edges}
use Rattle.paper.proofs.TakenDown.{taken_down}

cases : Cases in_bytes 96 95
cases = cases_of in_bytes refl refl

page_long : (page : List ℕ) → length page ≡ 1312 → LongEnough (page_sizes page)
page_long page e = (omega arith, tt)

paged : {r : Paged} {a : Assembly} {n : ℕ} → r.assembly ≡ a → r.length ≡ n → r ≡ record { assembly = a; length = n }
paged e f = ap₂ (λ (a : Assembly) (n : ℕ). record { assembly = a; length = n }) e f

code_of_lem : {r a : Assembly} → r ≡ a → r.code ≡ a.code
code_of_lem e = ap (λ (x : Assembly). x.code) e

-- ---- a plan
answers : {book : List ℕ} {u : Run} {a : Assembly} {plan legs : List ℕ} → all_below 256 book ≡ true → Gives in_bytes 96 book u a plan legs → a.code ≡ 0
    → PageAnswers book (run_bytes u) (record { assembly = a; length = 41 * a.legs })
answers {book} {u} {a} h g z = record { result = λ x s e. paged (is x s e) ((taken_down (all_on 256 book h) x).long ∙ ap (λ (y : Assembly). 41 * y.legs) (is x s e)) }
  where
    is : {l : AllLent ℕ} {page : List ℕ} {r : Paged} {l' : AllLent ℕ} {page' : List ℕ} → Pages (asked book (run_bytes u)) l page r l' page' → AllStated 96 l
        → length page ≡ 1312 → r.assembly ≡ a
    is {page = page} (short k e i j) s n = absurd (k (page_long page n))
    is (refused k x m e j) s n = absurd (m (code_of_lem (g.result x s).0 ∙ z))
    is (laid k x y d) s n = (g.result x s).0

-- ---- a refusal
record Answered (book run : List ℕ) (a : Assembly) : Type 0 where
  result : {l : AllLent ℕ} {r : Assembly} {l' : AllLent ℕ} → Assembles in_bytes (asked book run) l r l' → AllStated 96 l → r ≡ a

module _ {book run : List ℕ} {a : Assembly} (answered : Answered book run a) (n : a.code ≡ 0 → ⊥) where
  kept : PageKept book run (record { assembly = a; length = 0 })
  kept = record { result = go }
    where
      go : {l : AllLent ℕ} {page : List ℕ} {r : Paged} {l' : AllLent ℕ} {page' : List ℕ} → Pages (asked book run) l page r l' page' → AllStated 96 l
          → length page ≡ 1312 → (r ≡ record { assembly = a; length = 0 }) × (page' ≡ page)
      go {page = page} (short k e i j) s p = absurd (k (page_long page p))
      go (refused k x m e j) s p = (paged (answered.result x s) e, j)
      go (laid k x y d) s p = absurd (n (sym (code_of_lem (answered.result x s)) ∙ y))

too_short : {book run : List ℕ} {l : AllLent ℕ} {page : List ℕ} {r : Paged} {l' : AllLent ℕ} {page' : List ℕ} → Pages (asked book run) l page r l' page'
    → AnyShorter 95 l → length page ≡ 1312 → (r ≡ record { assembly = refusal 1 0; length = 0 }) × (l' ≡ l) × (page' ≡ page)
too_short {page = page} (short k e i j) s p = absurd (k (page_long page p))
too_short (refused k x m e j) s p = let (f, i) = cases.one x s in (paged f e, i, j)
too_short (laid k x y d) s p = absurd (omega (arith, y, code_of_lem (cases.one x s).0))

pub edges : Edges
unfolding pick both less same frame bytes_le two_bytes all_one weights_recs all_below
edges =
    record {
      q5 = answers refl cases.q5 refl;
      tie = answers refl cases.tie refl;
      q11 = answers refl cases.q11 refl;
      uneven = answers refl cases.uneven refl;
      long = answers refl cases.long refl;
      eleven = kept (record { result = λ x s. (cases.q9.result x s).0 }) (λ e. omega arith);
      ten = kept (record { result = λ x s. (cases.q10.result x s).0 }) (λ e. omega arith);
      nine = kept (record { result = λ x s. (cases.nine.result x s).0 }) (λ e. omega arith);
      eight = kept (record { result = λ x s. (cases.eight.result x s).0 }) (λ e. omega arith);
      twelve = kept (record { result = λ x s. (cases.twelve.result x s).0 }) (λ e. omega arith);
      two = kept (record { result = λ x s. (cases.two.result x s).0 }) (λ e. omega arith);
      three = kept (record { result = λ x s. (cases.three.result x s).0 }) (λ e. omega arith);
      four = kept (record { result = λ x s. (cases.four.result x s).0 }) (λ e. omega arith);
      five = kept (record { result = λ x s. (cases.five.result x s).0 }) (λ e. omega arith);
      six = kept (record { result = λ x s. (cases.six.result x s).0 }) (λ e. omega arith);
      seven = kept (record { result = λ x s. (cases.seven.result x s).0 }) (λ e. omega arith);
      thirteen = kept (record { result = λ x s. (cases.thirteen.result x s).0 }) (λ e. omega arith);
      one = too_short;
    }
