-- `first_hole` passes the holes in order: the first, those between instances, the last. Assumes nothing.
use Rattle.laws.proofs.Prelude.{rules}
use Rattle.rule_instances.proofs.Holes.{hole_first, hole_first_no, hole_between, hole_found, hole_found_first, holes_passed, holes_more, hole_found_last, holes_none}
use Rattle.rule_instances.proofs.first_hole.Goals as goal

pub returns-then-begin-e-ne0 : goal.returns-then-begin-e-ne0
returns-then-begin-e-ne0 c = search (hole_first_no, hole_found_first)

pub loop-i-init : goal.loop-i-init
loop-i-init c = search (rules, hole_first, holes_passed)

pub returns-then-not-gap_fits : goal.returns-then-not-gap_fits
returns-then-not-gap_fits c = search (rules, hole_between, hole_found)

pub loop-i-preserved : goal.loop-i-preserved
loop-i-preserved c = search (rules, hole_between, holes_more)

pub returns-then-not-gap_fits-2 : goal.returns-then-not-gap_fits-2
returns-then-not-gap_fits-2 c = search (rules, hole_found_last)

pub returns : goal.returns
returns c = search (rules, holes_none)
