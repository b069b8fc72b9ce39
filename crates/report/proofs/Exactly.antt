-- The contract of `report` gives what 01 says: the text is that of assembling's answer for the bytes that are judged. Assumes nothing.
use mathlib.Core.Path.{◌≡◌, refl, sym, ap, ap₂, ◌∙◌, subst₂}
use mathlib.Core.List.{List}
use Prim.Native.Nat.{ℕ, ◌≤◌, min}
use native.Mathlib.Omega.{arith}
use lib.ListN.{length, take, replicate, length-replicate}
use lib.Seq.{sets, take_all, length-sets}
use Rattle.base.specs.Lists.{Bytes}
use Rattle.base.specs.Sizes.{LongEnough}
use Rattle.show.specs.Show.{lines_of}
use Rattle.show.proofs.Texts.{take_min}
use Rattle.assembly.specs.Asked.{asked}
use Rattle.assembly.specs.declared.Assembly.{Assembly}
use Rattle.assembly.specs.Lent.{in_bytes, Room, AllLent, all_sizes}
use Rattle.assembly.specs.Assembles.{Assembles}
use Rattle.assembly.specs.Contract.{plan_by, room_of, AssembleAs}
use Rattle.assembly.proofs.Exactly.{even-bytes, Outcome, refused, given, outcome, assembles}
use Rattle.report.specs.Prints.{zeros, Prints, Reports}
use Rattle.report.specs.Contract.{result_for, lines_for, text_of, ReportAs}

-- assembling in zeroed buffers
abbrev pub Zeroed : List ℕ → List ℕ → Assembly → AllLent ℕ → Type 0
Zeroed book run = AssembleAs in_bytes (asked book run) zeros

pub zeros-long : LongEnough (all_sizes in_bytes zeros)
zeros-long = (held 256, (held 96, (held 2048, (held 2176, (held 32, tt)))))
  where
    held : (n : ℕ) → n ≤ length {A = ℕ} (replicate n 0)
    held n = omega (arith, length-replicate {A = ℕ} n 0)

-- ---- `report` meets its contract

module _ (book run : List ℕ) {r : Assembly} {l : AllLent ℕ} (c : Zeroed (take 31179 book) (take 302 run) r l) where
  pub text-is : lines_for r l.room.plan ≡ text_of book run
  unfolding text_of
  text-is = let p = (c.enough zeros-long).0 in ap₂ (λ (x : Assembly) (y : Room ℕ). lines_for x y.plan) p.result p.room_is

pub reported : {book run : List ℕ} {i j : ℕ} {r : Assembly} {l : AllLent ℕ} {out : List ℕ} {n : ℕ} {out' : List ℕ} → i ≡ min 31179 (length book)
    → j ≡ min 302 (length run) → Zeroed (take i book) (take j run) r l → out' ≡ sets out 0 (lines_for r l.room.plan) → n ≡ length (lines_for r l.room.plan) → n ≤ 5461
    → ReportAs book run out n out'
reported {book} {run} {i} {j} {r} {l} {out} {n} {out'} p q c row size most =
    let cut : Zeroed (take 31179 book) (take 302 run) r l = subst₂ (λ (x y : List ℕ). Zeroed x y r l)
    (ap (λ (k : ℕ). take k book) p ∙ take_min 31179 book) (ap (λ (k : ℕ). take k run) q ∙ take_min 302 run) c in
    record {
      bytes = cut.bytes;
      bytes_of_run = (cut.enough zeros-long).0.bytes_of_run;
      size = size ∙ ap length (text-is book run cut);
      most = most;
      stored = row ∙ ap (λ (x : List ℕ). sets out 0 x) (text-is book run cut);
    }

-- ---- what 01 says of the text

module _ (book run : List ℕ) {r : Assembly} {l : AllLent ℕ} (c : Zeroed (take 31179 book) (take 302 run) r l) where
  plan-length : length l.room.plan ≡ 256
  plan-length = let p = (c.enough zeros-long).0 in go p.room_is (outcome (asked (take 31179 book) (take 302 run)) p.bytes p.bytes_of_run)
    where
      at : {x : Room ℕ} → l.room ≡ x → length l.room.plan ≡ length x.plan
      at e = ap (λ (x : Room ℕ). length x.plan) e

      go : l.room ≡ plan_by (asked (take 31179 book) (take 302 run)) (λ code place. zeros.room) (room_of in_bytes zeros.room)
          → Outcome (asked (take 31179 book) (take 302 run)) → length l.room.plan ≡ 256
      go q (refused code place e) = at (q ∙ e _ _ _) ∙ length-replicate {A = ℕ} 256 0
      go q (given a small e) = at (q ∙ e _ _ _) ∙ length-sets (replicate 256 0) 0 a.plan-bytes ∙ length-replicate {A = ℕ} 256 0

  pub text-prints : Prints book run (text_of book run)
  text-prints =
      record {
        result = r;
        left = l;
        assembled = assembles even-bytes c;
        lines =
            sym (text-is book run c)
            ∙ ap (λ (x : List ℕ). lines_of r.code r.place r.commands r.legs (take r.commands x))
            (take_all 256 l.room.plan (omega (arith, plan-length)));
      }

-- any bytes are assembled, and some text is printed for them
module _ (book run : List ℕ) (b : Bytes (take 31179 book)) (u : Bytes (take 302 run)) where
  pub zeroed : (l : AllLent ℕ) × Zeroed (take 31179 book) (take 302 run) (result_for book run) l
  zeroed = (
    record { read = _; room = _ },
    record {
      bytes = b;
      short = λ n. absurd (n zeros-long);
      enough = λ _. (record { bytes = b; bytes_of_run = u; result = refl; room_is = refl }, refl);
    },
  )

  pub prints : Prints book run (text_of book run)
  prints = text-prints book run zeroed.1

pub reports : {book run out : List ℕ} {r : ℕ} {out' : List ℕ} → ReportAs book run out r out' → Reports book run out r out'
reports {book} {run} c =
    record { text = text_of book run; prints = prints book run c.bytes c.bytes_of_run; size = c.size; most = c.most; stored = c.stored }

-- "judges at most the first 31,111 bytes of book.bin and 302 of run.bin", with 02 31,179: what lies past them changes nothing
pub prints-first : {book run book' run' text : List ℕ} → take 31179 book ≡ take 31179 book' → take 302 run ≡ take 302 run' → Prints book run text → Prints book' run' text
prints-first p q w =
    record {
      result = w.result;
      left = w.left;
      assembled = subst₂ (λ (x y : List ℕ). Assembles in_bytes (asked x y) zeros w.result w.left) p q w.assembled;
      lines = w.lines;
    }
