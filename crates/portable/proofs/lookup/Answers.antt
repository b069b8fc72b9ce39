-- `portable::lookup` meets its contract: the table that it reads is the rule's. Assumes nothing.
use Rattle.std.proofs.Common.{◌∙◌}
use Rattle.lookups.proofs.Exactly.{table_lookup}
use Rattle.portable_rule.proofs.Rules.{works_out}
use Rattle.portable.proofs.lookup.Goals as goal

pub returns : goal.returns
returns c = c.lookup.ensures.entry ∙ table_lookup works_out c.entries.ensures _ _
