-- The look-ups worked out by hand. Assumes nothing.
use mathlib.Core.Path.{refl}
use lib.Dec.{lit<}
use Rattle.base.specs.Tests.{pick, both}
use Rattle.base.specs.Compare.{less, same}
use Rattle.base.specs.Cardinality.{member, present}
use Rattle.book.specs.Book.{outcome_of}
use Rattle.book.specs.Example.{book_q}
use Rattle.book.proofs.Example.{bytes-book_q, allowed-book_q}
use Rattle.octets.specs.Parts.{whole_at}
use Rattle.moves.specs.Moves.{moved_to, with_move, move_added}
use Rattle.moves.specs.Cases.{TwoMoves, QIndexed}

pub two-moves : TwoMoves
unfolding pick less member present whole_at moved_to with_move move_added
two-moves =
    record {
      move_at_first = refl;
      last_move = refl;
      first_outcomes = refl;
      last_outcomes = refl;
      between = refl;
      above = refl;
      past_row = refl;
      no_row = refl;
    }

pub q_indexed : QIndexed
unfolding outcome_of pick both same
q_indexed =
    record {
      outcomes = λ x l.
          let f = x.entries book_q allowed-book_q bytes-book_q l in
          (f 0 2 (lit< tt) (lit< tt), f 1 2 (lit< tt) (lit< tt));
    }
