-- `first_group_fault` passes the groups in order, and in each its entries and then its origin, and leaves both loops at the first fault. Assumes nothing.
use Rattle.laws.proofs.Prelude.{◌/◌, length, Passed}
use Rattle.rule_groups.specs.Parts.{matches_at, group_fits}
use Rattle.rule_groups.proofs.first_group_fault.Given as goal

abbrev pub invariant-loop-j : goal.invariant-loop-j
invariant-loop-j l = Passed (matches_at l.view.widths l.view.displacements l.n l.fw l.fd l.g) l.j l.n

abbrev pub invariant-loop-g : goal.invariant-loop-g
invariant-loop-g l = Passed (group_fits l.view.widths l.view.displacements l.n l.fw l.fd) l.g (length l.fw / l.n)
