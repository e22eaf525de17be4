-- `holes_fit` passes the holes in order: the first, those between instances, the last. Assumes nothing.
use Rattle.laws.proofs.Prelude.{◌+◌, ◌≤◌, Passed}
use Rattle.rule_instances.specs.Parts.{hole_fits}
use Rattle.rule_instances.proofs.holes_fit.Given as goal

abbrev pub invariant-loop-i : goal.invariant-loop-i
invariant-loop-i l = (l.i ≤ l.k) × Passed (hole_fits l.view.origins l.k l.e l.extent) l.i (l.k + 1)
