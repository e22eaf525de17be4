-- Each turn takes one record of at most 65,538 bytes.
use Rattle.std.proofs.Common.{◌*◌, ◌≤◌}
use Rattle.test_conformance.proofs.run.Given as goal

abbrev pub invariant-loop-i : goal.invariant-loop-i
invariant-loop-i g l = l.place ≤ l._i * 65538
