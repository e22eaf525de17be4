-- `run` makes turn after turn. The invariant: the loop stands where the turns made so far lead, and the list has their lines. Assumes nothing.
use Rattle.replay_run.specs.Parts.{position}
use Rattle.replay_run.proofs.Turning.{Running}
use Rattle.replay_run.proofs.run.Given as goal

abbrev pub invariant-loop-lines : goal.invariant-loop-lines
invariant-loop-lines l = Running l.last l.window (position l.initial.current l.initial.bytes 0) l.initial.list l.room (position l.current l.bytes l.at) l.list l.lines
