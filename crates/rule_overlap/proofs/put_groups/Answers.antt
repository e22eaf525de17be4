-- `put_groups` puts the keys of one group after those of another. Assumes nothing.
use Rattle.laws.proofs.Prelude.{rules}
use Rattle.rule_overlap.proofs.Filling.{group_more, groups_none}
use Rattle.rule_overlap.proofs.put_groups.Goals as goal

pub loop-g-init : goal.loop-g-init
loop-g-init c = search groups_none

pub loop-e-preserved : goal.loop-e-preserved
loop-e-preserved c = search (rules, group_more)
