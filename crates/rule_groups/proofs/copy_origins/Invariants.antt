-- `copy_origins` stores the origin of each group. Assumes nothing.
use Rattle.laws.proofs.Prelude.{◌/◌, ◌≤◌, ◌<◌, ◌≡◌, length, front}
use Rattle.rule_groups.specs.Parts.{group_origin}
use Rattle.rule_groups.proofs.copy_origins.Given as goal

abbrev pub invariant-loop-g : goal.invariant-loop-g
invariant-loop-g l = (0 < l.n) × (length l.fd / l.n ≤ length l.initial.out) × (l.out ≡ front (group_origin l.fd l.n l.first) l.g l.initial.out)
