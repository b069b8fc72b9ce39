-- Assumes nothing.
use Rattle.std.proofs.Common.{rules}
use Rattle.runs.specs.Computed.{command_of}
use Rattle.runs.proofs.Reading.{command-past}
use Rattle.runs.proofs.command_at.Goals as goal

pub returns-then-run-at : goal.returns-then-run-at
returns-then-run-at c = search command-past

pub returns : goal.returns
unfolding command_of
returns c = search rules
