-- `run` makes turn after turn. The invariant: the loop stands where the turns made so far lead, and the list has their lines. Assumes nothing.
use Rattle.laws.proofs.Prelude.{rules}
use Rattle.replay_run.proofs.Turning.{running_none, running_more, running_stop, running_end, list_room, list_fits}
use Rattle.replay_run.proofs.run.Goals as goal

pub loop-lines-init : goal.loop-lines-init
loop-lines-init c = search (rules, running_none)

pub overflow_mul-lines : goal.overflow_mul-lines
overflow_mul-lines c = search (rules, list_fits)

pub put_line-requires : goal.put_line-requires
put_line-requires c = search (rules, list_room)

pub loop-lines-preserved : goal.loop-lines-preserved
loop-lines-preserved c = running_more _ _ _ _ _ _ _ _ _ _ c.loop-lines.invariant _ _ c.in-Ok.ensures _ c.loop-lines-test.true c.put_line.ensures c.make_turn.auto.bytes c.put_line.auto.list

pub returns-in-Err : goal.returns-in-Err
returns-in-Err c = running_stop _ _ _ _ _ _ _ _ _ _ c.loop-lines.invariant _ _ c.in-Err.ensures c.loop-lines-test.true

pub returns : goal.returns
returns c = search running_end
