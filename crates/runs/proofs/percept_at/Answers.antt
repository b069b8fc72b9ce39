-- Assumes nothing.
use Rattle.runs.specs.Computed.{percept_of}
use Rattle.runs.proofs.Reading.{percept-past}
use Rattle.runs.proofs.percept_at.Goals as goal

pub returns-then-run-point : goal.returns-then-run-point
returns-then-run-point c = search percept-past

pub returns : goal.returns
unfolding percept_of
returns c = cc
