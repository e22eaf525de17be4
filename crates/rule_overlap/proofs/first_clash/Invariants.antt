-- `first_clash` makes the entries' keys, and searches them if a sorted copy has keys that clash. Assumes nothing.
use Rattle.laws.proofs.Prelude.{◌≡◌, nth, front}
use Rattle.rule_overlap.specs.Parts.{key_of}
use Rattle.rule_overlap.proofs.first_clash.Given as goal

abbrev pub invariant-loop-i : goal.invariant-loop-i
invariant-loop-i l = l.keys ≡ front (λ i. key_of l.extent (nth l.ds i) (nth l.ws i)) l.i l.initial.keys
