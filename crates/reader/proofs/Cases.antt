-- Q's 225 bytes read, and its device with weights, by the books that stand in them. Assumes nothing.
use mathlib.Core.Path.{◌≡◌, refl, sym, ap, ◌∙◌, subst}
use mathlib.Core.List.{List}
use Prim.Native.Nat.{ℕ}
use lib.Dec.{lit<, lit≤}
use lib.ListN.{take}
use lib.Seq.{take-take}
use Rattle.base.specs.Lists.{Bytes}
use Rattle.base.specs.Sizes.{LongEnough}
use Rattle.base.specs.Tests.{pick, both}
use Rattle.base.specs.Compare.{less, same}
use Rattle.octets.specs.Le.{bytes_le}
use Rattle.book.specs.Book.{Book, AllowedBook, bytes_of, outcome_of, items_for}
use Rattle.book.specs.Lent.{Lent, sizes, slots_bytes}
use Rattle.book.specs.Limits.{all_below}
use Rattle.book.specs.Example.{book_q, bytes_q, book_dear, bytes_dear, first_slots}
use Rattle.book.proofs.Fields.{all_on}
use Rattle.book.proofs.Example.{bytes-book_q, allowed-book_q, bytes-book_dear, allowed-book_dear}
use Rattle.book.proofs.Unique.{one-book, not-refused}
use Rattle.reader.specs.declared.Reading.{Reading}
use Rattle.reader.specs.Reads.{done, Filled, Reads, short, faulty, fine}
use Rattle.reader.specs.Cases.{QRead}

pub bytes_q_lem : Bytes bytes_q
unfolding all_below pick less
bytes_q_lem = all_on 256 bytes_q refl

pub bytes_dear_lem : Bytes bytes_dear
unfolding all_below pick less
bytes_dear_lem = all_on 256 bytes_dear refl

module _ {s : List ℕ} (bytes : Bytes s) {b : Book} (a : AllowedBook b) (same : bytes_of b ≡ s) {l : Lent} {r : Reading} {l' : Lent} where
  -- what is read is the book of these bytes
  pub read_as : Reads s l r l' → LongEnough (sizes l) → (r ≡ done b) × Filled s l b l'
  read_as (short n e k) h = absurd (n h)
  read_as (faulty h f e k) _ = absurd (not-refused s bytes f b a same)
  read_as (fine b' f e) h =
      let x : b' ≡ b = one-book b' b f.allowed a (f.bytes ∙ sym same) in
      (e ∙ ap done x, subst (λ (y : Book). Filled s l y l') x f)

read_q : {l : Lent} {r : Reading} {l' : Lent} → Reads bytes_q l r l' → LongEnough (sizes l) → (r ≡ done book_q) × Filled bytes_q l book_q l'
read_q = read_as bytes_q_lem allowed-book_q bytes-book_q

read_dear : {l : Lent} {r : Reading} {l' : Lent} → Reads bytes_dear l r l' → LongEnough (sizes l) → (r ≡ done book_dear) × Filled bytes_dear l book_dear l'
read_dear = read_as bytes_dear_lem allowed-book_dear bytes-book_dear

slots_q : take 68 (slots_bytes (items_for book_q)) ≡ first_slots
unfolding slots_bytes bytes_le
slots_q = refl

pub q_read : QRead
unfolding outcome_of pick both same slots_bytes bytes_le
q_read =
    record {
      result = λ x l. (read_q x l).0;
      entries =
          λ x l.
          let f = (read_q x l).1.read.table_read in
          (f.entries 0 2 (lit< tt) (lit< tt), f.entries 1 2 (lit< tt) (lit< tt));
      slots_at_first =
          λ {l} {r} {l'} x h.
          sym (take-take 68 170 l'.slots (lit≤ tt)) ∙ (ap (take 68) (read_q x h).1.read.slots_read.front ∙ slots_q);
      plain_weights = λ x h. (read_q x h).1.read.weights_read.front;
      dear_weights = λ x h. (read_dear x h).1.read.weights_read.front;
      plain_past_m = λ x h i l. (read_q x h).1.read.weights_read.kept i 0 l;
      dear_past_m = λ x h i l. (read_dear x h).1.read.weights_read.kept i 0 l;
    }
