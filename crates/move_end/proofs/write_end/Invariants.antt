-- `write_end` takes the greatest end of the last offsets, one for each instance at most; together they end where the write does. Assumes nothing.
use Rattle.move_end.proofs.Ending.{Ending}
use Rattle.move_end.proofs.write_end.Given as goal

abbrev pub invariant-loop : goal.invariant-loop
invariant-loop l = Ending l.view l.from l.tail l.reach l.counter l.spot l.end
