-- The states worked out by hand. Assumes nothing.
use mathlib.Core.Path.{refl}
use native.Mathlib.Omega.{arith}
use lib.Dec.{lit<}
use Rattle.base.specs.Tests.{pick}
use Rattle.base.specs.Bounded.{seek}
use Rattle.base.specs.Cardinality.{member, present}
use Rattle.base.specs.Masks.{without, lowest_in}
use Rattle.base.specs.Cases.{StatesPresent}
use Rattle.base.proofs.Trailing.{lowest-is}
use Rattle.base.proofs.Present.{present-is}

pub states-present : StatesPresent
unfolding present lowest_in without member seek pick
states-present =
    record {
      in_37 = present-is 64 37;
      below_5 = present-is 5 37;
      computed = refl;
      three_in_37 = refl;
      two_below_5 = refl;
      all_of_64 = refl;
      first_in_40 = lowest-is 40 (λ e. omega arith) (lit< tt);
      lowest_of_40 = refl;
      lowest_of_last = refl;
      lowest_of_none = refl;
      without_0 = refl;
      without_absent = refl;
    }
