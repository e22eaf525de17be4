-- `put_groups` puts the keys of one group after those of another. Assumes nothing.
use Rattle.laws.proofs.Prelude.{◌+◌, ◌*◌, ◌≡◌, front}
use Rattle.rule_overlap.specs.Parts.{group_key}
use Rattle.rule_overlap.proofs.put_groups.Given as goal

abbrev pub invariant-loop-g : goal.invariant-loop-g
invariant-loop-g l = l.keys ≡ front (group_key l.view) (l.g * l.n) l.fn.keys

abbrev pub invariant-loop-e : goal.invariant-loop-e
invariant-loop-e l = l.keys ≡ front (group_key l.view) (l.g * l.n + l.e) l.fn.keys
