use Rattle.base.proofs.Picks.{tests}
use Rattle.book.specs.declared.kind.Kind.TheVariants.{DeviceRecord, WeightsRecord, MoveRecord, ItemRecord}
use Rattle.book.specs.Parse.{kind_of}
use Rattle.book.proofs.Numbers.{known}
use Rattle.book.proofs.kind.KindTryFromU64.try_from.Goals as goal

-- each number that is tried is that of its kind
pub returns-in-1 : goal.returns-in-1
returns-in-1 c = known DeviceRecord c.in-1.is

pub returns-in-2 : goal.returns-in-2
returns-in-2 c = known MoveRecord c.in-2.is

pub returns-in-3 : goal.returns-in-3
returns-in-3 c = known ItemRecord c.in-3.is

pub returns-in-5 : goal.returns-in-5
returns-in-5 c = known WeightsRecord c.in-5.is

-- and no kind has any other
pub returns-in_default : goal.returns-in_default
unfolding kind_of
returns-in_default c = search tests
