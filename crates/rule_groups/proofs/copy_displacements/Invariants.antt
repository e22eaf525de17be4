-- `copy_displacements` stores each displacement at its index. Assumes nothing.
use Rattle.laws.proofs.Prelude.{◌≤◌, ◌≡◌, length, front}
use Rattle.rule_groups.specs.Parts.{whole_at}
use Rattle.rule_groups.proofs.copy_displacements.Given as goal

abbrev pub invariant-loop-i : goal.invariant-loop-i
invariant-loop-i l = (length l.ds ≤ length l.initial.out) × (l.out ≡ front (whole_at l.ds) l.i l.initial.out)
