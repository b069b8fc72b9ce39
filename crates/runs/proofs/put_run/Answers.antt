-- The record's parts, one after the other. Assumes nothing.
use Rattle.runs.proofs.Writing.{run-written}
use Rattle.runs.proofs.put_run.Goals as goal

pub returns : goal.returns
returns c =
    let a = c.args in
    run-written a.i a.commands.now a.percepts.now c.requires.0 c.requires.1 c.requires.2 _ _ _ _ _ _ c.put_le.ensures c.put_le-2.ensures
    c.put_le-3.ensures c.copy.ensures c.put_percepts.ensures
