-- The visits and outcomes worked out by hand. Assumes nothing.
use mathlib.Core.Path.{refl}
use Rattle.base.specs.Tests.{pick, both, imp}
use Rattle.base.specs.Bounded.{all, union}
use Rattle.base.specs.Cardinality.{member, present}
use Rattle.reversal.specs.Device.{entry}
use Rattle.reversal.specs.Computed.Sets.{after, able}
use Rattle.reversal.specs.Computed.Beliefs.{preimage}
use Rattle.states.specs.StateSets.{in_limits, outcomes_of, before_in, visited_in}
use Rattle.states.specs.Cases.{Visits, Outcomes}

pub visits : Visits
unfolding present member pick both imp all union entry after able preimage in_limits before_in visited_in
visits =
    record {
      from_0_and_2 = refl;
      from_0_and_1 = refl;
      from_nowhere = refl;
      past_n = refl;
      states_over = refl;
      commands_over = refl;
      into_2 = refl;
    }

pub outcomes : Outcomes
unfolding pick both entry in_limits outcomes_of
outcomes =
    record {
      of_0 = refl;
      of_1 = refl;
      of_2 = refl;
      no_state = refl;
      no_command = refl;
      states_64 = refl;
      states_65 = refl;
      commands_32 = refl;
      commands_33 = refl;
    }
