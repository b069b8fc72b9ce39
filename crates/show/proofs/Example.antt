-- The examples hold. Assumes nothing.
use mathlib.Core.Path.{refl}
use Rattle.base.specs.Tests.{pick}
use Rattle.base.specs.Compare.{less, same}
use Rattle.show.specs.Show.{decimal_in, decimal, right_aligned, line, lines_of}
use Rattle.show.specs.Example.{Examples}

pub examples : Examples
unfolding decimal_in decimal right_aligned line lines_of pick less same
examples = record { q5 = refl; none = refl; two = refl; right = refl; right_two = refl; right_over = refl; refused = refl }
