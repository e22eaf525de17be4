-- `first_group_fault` passes the groups in order, and in each its entries and then its origin, and leaves both loops at the first fault. Assumes nothing.
use Rattle.rule_groups.proofs.Building.{group_fits_on}
use Rattle.rule_groups.proofs.first_group_fault.Goals as goal

pub loop-g-preserved : goal.loop-g-preserved
loop-g-preserved c = group_fits_on _ _ _ _ _ _ c.loop-g.invariant c.loop-g-test.true _ c.loop-j.invariant c.loop-j-test.false c.if-fd-begin.false
