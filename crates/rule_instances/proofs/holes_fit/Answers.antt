-- `holes_fit` passes the holes in order: the first, those between instances, the last. Assumes nothing.
use Rattle.laws.proofs.Prelude.{rules}
use Rattle.rule_instances.proofs.Holes.{hole_first, hole_first_no, hole_between, holes_fail, holes_fail_first, holes_passed, holes_more, holes_last}
use Rattle.rule_instances.proofs.holes_fit.Goals as goal

pub returns-then-view-e-ne0 : goal.returns-then-view-e-ne0
returns-then-view-e-ne0 c = search (hole_first_no, holes_fail_first)

pub loop-i-init : goal.loop-i-init
loop-i-init c = search (rules, hole_first, holes_passed)

pub returns-then-not-gap_fits : goal.returns-then-not-gap_fits
returns-then-not-gap_fits c = search (rules, hole_between, holes_fail)

pub loop-i-preserved : goal.loop-i-preserved
loop-i-preserved c = search (rules, hole_between, holes_more)

pub returns : goal.returns
returns c = search (rules, holes_last)
