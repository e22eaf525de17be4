-- `view_of` puts the lent lists at the front of the record's, and the origin of each group. Assumes nothing.
use Rattle.rule_groups.proofs.Building.{view_made}
use Rattle.rule_groups.proofs.view_of.Goals as goal

pub returns : goal.returns
returns c = view_made _ _ _ _ c.requires _ _ _ c.copy_from_slice.ensures.after c.copy_displacements.ensures c.copy_origins.ensures
