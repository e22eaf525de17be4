-- Each turn goes on in the trace by at most a window of 131,072 bytes.
use Rattle.std.proofs.Common.{◌*◌, ◌≤◌}
use Rattle.replay.proofs.replay_file.Given as goal

abbrev pub invariant-loop : goal.invariant-loop
invariant-loop g l = l.window.place ≤ 131072 * l.counter
