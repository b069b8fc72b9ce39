-- What 02 says of the call gives: the commands, taken down the page, are the plan; and demand 3, which is assembling's. Assumes nothing.
use mathlib.Core.Path.{◌≡◌, sym, ap, ◌∙◌, subst}
use mathlib.Core.List.{List, map}
use Prim.Native.Nat.{ℕ, ◌*◌}
use native.Mathlib.Omega.{arith}
use lib.ListN.{length, take}
use Rattle.base.specs.Lists.{Each, Bytes}
use Rattle.reversal.specs.Runs.{Run, last}
use Rattle.reversal.specs.Chains.{Leg, legs_of}
use Rattle.book.specs.Book.{Book, items_for}
use Rattle.assembly.specs.Asked.{Asked}
use Rattle.assembly.specs.Lent.{in_bytes, AllLent}
use Rattle.assembly.specs.Demand.{Given, Planned}
use Rattle.assembly.proofs.Exactly.{even-bytes, length-legs}
use Rattle.assembly.proofs.After.{none-counted}
use Rattle.assembly.proofs.Demand.{demand}
use Rattle.paper.specs.declared.Paged.{Paged}
use Rattle.paper.specs.Layout.{joined, reverse_of, page_of}
use Rattle.paper.specs.Taken.{lines_in, on_line, leg_on, commands_on, down}
use Rattle.paper.specs.Pages.{Laid, Pages, short, refused, laid, PageDemand, up_from, TakenDown}
use Rattle.paper.proofs.ReadBack.{PageBack}
use Rattle.paper.proofs.Legs.{legs-plan, one-text, chain_back}

-- nothing is counted, and nothing stands there
nothing : (r : Paged) (l' : AllLent ℕ) (page' : List ℕ) → r.length ≡ 0 → r.assembly.commands ≡ 0 → r.assembly.legs ≡ 0 → TakenDown r l' page'
unfolding lines_in joined up_from
nothing r l' page' n c g =
    record {
      commands = ap (λ (k : ℕ). down commands_on (lines_in (take k page'))) n ∙ sym (ap (λ (k : ℕ). take k l'.room.plan) c);
      legs = ap (λ (k : ℕ). down leg_on (lines_in (take k page'))) n ∙ sym (ap (λ (k : ℕ). take (3 * k) l'.room.legs) g);
      numbered = ap (λ (k : ℕ). down (on_line 0) (lines_in (take k page'))) n ∙ sym (ap (up_from 1) g);
      counted =
          ap (λ (k : ℕ). down (on_line 4) (lines_in (take k page'))) n
          ∙ sym (ap (λ (k : ℕ). map (λ line. length (commands_on line)) (lines_in (take k page'))) n);
      wide = subst (λ (k : ℕ). Each (λ line. length line ≡ 40) (lines_in (take k page'))) (sym n) tt;
      long = omega (arith, n, g);
    }

-- the legs that were written are a chain's, and these are laid out
module _ (ask : Asked) (page : List ℕ) (r : Paged) (l' : AllLent ℕ) (page' : List ℕ) (b : Book) (u : Run) (g : Given ask b u)
    (p : Planned in_bytes b u r.assembly l'.room) (d : Laid ask.book r l'.room.legs page page') where
  abbrev ls : List Leg
  ls = legs_of (items_for b) (last u) p.items

  back : PageBack (reverse_of (items_for b)) 1 ls
  back = chain_back b g.accepted.allowed u g.allowed p.items p.chain

  same_text : page_of (items_for d.the_book) d.legs ≡ page_of (items_for b) ls
  same_text = one-text d g.accepted ls p.legs_written

  chain-text : take r.length page' ≡ page_of (items_for b) ls
  chain-text = ap (λ (k : ℕ). take k page') d.length_is ∙ d.written.front ∙ same_text

  count : length ls ≡ r.assembly.legs
  count = length-legs (items_for b) p.items (last u) ∙ sym p.legs_counted

  all_taken : TakenDown r l' page'
  all_taken =
      record {
        commands =
            ap (λ (t : List ℕ). down commands_on (lines_in t)) chain-text ∙ back.commands ∙ legs-plan (items_for b) p.items (last u) ∙ sym p.plan_written;
        legs = ap (λ (t : List ℕ). down leg_on (lines_in t)) chain-text ∙ back.legs ∙ sym p.legs_written;
        numbered = ap (λ (t : List ℕ). down (on_line 0) (lines_in t)) chain-text ∙ back.numbered ∙ ap (up_from 1) count;
        counted =
            ap (λ (t : List ℕ). down (on_line 4) (lines_in t)) chain-text ∙ back.counted
            ∙ sym (ap (λ (t : List ℕ). map (λ line. length (commands_on line)) (lines_in t)) chain-text);
        wide = subst (λ (t : List ℕ). Each (λ line. length line ≡ 40) (lines_in t)) (sym chain-text) back.wide;
        long = omega (arith, d.length_is, ap length same_text, back.long, count);
      }

module _ {ask : Asked} {l : AllLent ℕ} {page : List ℕ} {r : Paged} {l' : AllLent ℕ} {page' : List ℕ} (h : Bytes ask.book) where
  pub taken_down : Pages ask l page r l' page' → TakenDown r l' page'
  taken_down (short k e i j) =
      nothing r l' page' (ap (λ (x : Paged). x.length) e) (ap (λ (x : Paged). x.assembly.commands) e) (ap (λ (x : Paged). x.assembly.legs) e)
  taken_down (refused long a n e k) = let (c, g, s) = none-counted a n in nothing r l' page' e c g
  taken_down (laid long a z d) = let (b, (u, g, p)) = (demand even-bytes h a).plan_given z in all_taken ask page r l' page' b u g p d

  pub page_demand : Pages ask l page r l' page' → PageDemand ask l page r l' page'
  page_demand (short k e i j) =
      record {
        enough = λ m. absurd (k m);
        short = λ _. ap (λ (x : Paged). x.assembly.code) e;
        chain_laid = λ z b u g p. absurd (omega (arith, z, ap (λ (x : Paged). x.assembly.code) e));
      }
  page_demand (refused long a n e k) =
      record { enough = λ _. demand even-bytes h a; short = λ m. absurd (m long); chain_laid = λ z b u g p. absurd (n z) }
  page_demand (laid long a z d) =
      record {
        enough = λ _. demand even-bytes h a;
        short = λ m. absurd (m long);
        chain_laid = λ _ b u g p. chain-text ask page r l' page' b u g p d;
      }
