-- `ends_of` meets its contract. Assumes nothing.
use mathlib.Core.Path.{refl, ap, ◌∙◌}
use Rattle.states.specs.StateSets.{set_of}
use Rattle.states.proofs.Laws.{mask_of}
use Rattle.finder.specs.Searching.{lent}
use Rattle.finder.proofs.Kept.{lead_start, lead_next, lead_all}
use Rattle.finder.proofs.InLimits.ends_of.Goals as goal

pub loop-command-init : goal.loop-command-init
loop-command-init c = lead_start _ _ _ _ _ c.requires c.of.ensures c.add-ends.ensures

pub loop-command-preserved : goal.loop-command-preserved
loop-command-preserved c =
    let d = c.args.self.now in
    lead_next _ _ _ _ _ _ _ d.states d.commands c.loop-command-test.true c.from.ensures c.loop-command.invariant (mask_of c.after-ends.ensures)

pub returns : goal.returns
returns c =
    rw (← c.sought.view_is)
    (c.within.ensures
    ∙ ap set_of (lead_all (lent c.args.self.now) c.args.start c.sought.inside.forward.now _ _ _ _ c.loop-command-test.false c.loop-command.invariant refl))
