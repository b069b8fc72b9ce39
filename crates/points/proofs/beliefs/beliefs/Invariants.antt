-- `beliefs`: as many masks as before; within the limits of devices what the forward pass gives up to j, then what the backward pass gives from j on.
use Rattle.std.proofs.Common.{◌≡◌, ◌≤◌, length}
use Rattle.runs.specs.Computed.{run_of}
use Rattle.points.proofs.Passes.{Forward, Backward}
use Rattle.points.proofs.beliefs.beliefs.Given as goal

abbrev pub invariant-loop-j : goal.invariant-loop-j
invariant-loop-j g l =
    let d = g.D.Outcomes.device l.device in
    (l.j ≤ l.i) × (length l.sets ≡ length l.fn.sets) × (d.n ≤ 64 → d.m ≤ 32 → Forward d (run_of l.run) l.i l.j l.sets)

abbrev pub invariant-loop-j-2 : goal.invariant-loop-j-2
invariant-loop-j-2 g l =
    let d = g.D.Outcomes.device l.device in
    (l.j ≤ l.i) × (length l.sets ≡ length l.fn.sets) × (d.n ≤ 64 → d.m ≤ 32 → Backward d (run_of l.run) l.i l.j l.sets)
