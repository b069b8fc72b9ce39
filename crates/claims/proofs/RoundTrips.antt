-- The round trips, from what 01 says of reading and writing. Assumes nothing.
use mathlib.Core.Path.{◌≡◌, sym, ap, ap₂, ◌∙◌, subst}
use mathlib.Core.List.{List}
use Prim.Native.Nat.{ℕ, ◌*◌, ◌<◌}
use native.Mathlib.Omega.{arith}
use lib.ListN.{length, take}
use Rattle.base.specs.Lists.{Bytes}
use Rattle.base.specs.Sizes.{LongEnough}
use Rattle.book.specs.Book.{Book, device_of, AllowedBook, bytes_of, items_for}
use Rattle.book.specs.Lent.{Lent, slots_bytes, Holds}
use Rattle.book.proofs.Codes.{refusal_codes}
use Rattle.book.proofs.Slots.{length-slots}
use Rattle.book.proofs.Unique.{same-entry, one-book, not-refused}
use Rattle.book.proofs.RoundTrip.{read-holds}
use Rattle.reader.specs.declared.Reading.{Reading}
use Rattle.reader.specs.Reads.{done, Filled, Reads, short, faulty, fine}
use Rattle.writer.specs.declared.Writing.{Writing}
use Rattle.writer.specs.Writes.{buffers, BookWritten, Writes}
use Rattle.writer.proofs.Exactly.{held-written}
use Rattle.writer.proofs.RoundTrips.{done_of, bytes_of_book}
use Rattle.claims.specs.Claims.{GivenBack, ReadBack, WriteBack}

pub write_back : {n m items : ℕ} {l : Lent} {out : List ℕ} {r : Writing} {out' : List ℕ} → Bytes l.slots → Writes n m items l out r out'
    → WriteBack n m items l out r out'
write_back {n} {m} {items} {l} {out} {r} {out'} h x book given reads room = go reads
  where
    read : Reading
    read = record { code = 0; place = 0; n = n; m = m; items = items }

    code_of_lem : {y : Reading} → read ≡ y → 0 ≡ y.code
    code_of_lem e = ap (λ (y : Reading). y.code) e

    go : Reads book given read l → BookWritten book out r out'
    go (short a e k) = absurd (omega (arith, code_of_lem e))
    go (faulty _ f e k) = absurd (omega (arith, code_of_lem e, refusal_codes book _ _ f))
    go (fine b f e) =
        let holds : Holds n m items l b
        = subst (λ (y : Reading). Holds y.n y.m y.items l b) (sym e) (read-holds f.read) in
        let long : LongEnough (buffers l out) = (
          omega (arith, f.read.table_read.size, f.long.0),
          (omega (arith, f.read.slots_read.size, f.long.1.0), (omega (arith, f.read.weights_read.size, f.long.1.1.0), (room, tt))),
        ) in
        subst (λ (y : List ℕ). BookWritten y out r out') f.bytes (held-written h x long f.allowed holds)

pub read_back : {book : List ℕ} {l : Lent} {r : Reading} {l' : Lent} → Bytes book → Reads book l r l' → ReadBack book l r l'
read_back {book} {l} {r} {l'} h reads n m items given out w out' x z e long = go reads
  where
    b : Book
    b = (done_of z x).1.0

    allowed : AllowedBook b
    allowed = (done_of z x).1.1

    holds : Holds n m items given b
    holds = (done_of z x).1.2

    same : bytes_of b ≡ book
    same = sym (e ∙ bytes_of_book (done_of z x).1.3)

    size : length (slots_bytes (items_for b)) ≡ 34 * items
    size = length-slots (device_of b) (items_for b) allowed.each_item ∙ ap (λ (k : ℕ). 34 * k) holds.count

    weighed : length b.weights ≡ m
    weighed = allowed.weighed.count ∙ holds.commands

    back : r ≡ done b → Filled book l b l' → GivenBack n m items given r l'
    back q f =
        record {
          result =
              q
              ∙ (ap₂ (λ (i j : ℕ). record { code = 0; place = 0; n = i; m = j; items = length (items_for b) }) holds.states holds.commands
              ∙ ap (λ (k : ℕ). record { code = 0; place = 0; n = n; m = m; items = k }) holds.count);
          entries =
              λ i k.
              same-entry b f.read.table_read holds.entries i
              (subst (λ (c : ℕ). i < c) (ap₂ (λ (i j : ℕ). i * j) (sym holds.states) (sym holds.commands)) k);
          slots_same =
              ap (λ (k : ℕ). take k l'.slots) (sym size)
              ∙ (f.read.slots_read.front ∙ (sym holds.slots_are.front ∙ ap (λ (k : ℕ). take k given.slots) size));
          weights_same =
              ap (λ (k : ℕ). take k l'.weights) (sym weighed)
              ∙ (f.read.weights_read.front ∙ (sym holds.weights_are.front ∙ ap (λ (k : ℕ). take k given.weights) weighed));
        }

    go : Reads book l r l' → GivenBack n m items given r l'
    go (short a q k) = absurd (a long)
    go (faulty _ f q k) = absurd (not-refused book h f b allowed same)
    go (fine b' f q) =
        let y : b' ≡ b = one-book b' b f.allowed allowed (f.bytes ∙ sym same) in
        back (q ∙ ap done y) (subst (λ (v : Book). Filled book l v l') y f)
