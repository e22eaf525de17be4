-- `write_end` takes the greatest end of the last offsets, one for each instance at most; together they end where the write does. Assumes nothing.
use Rattle.laws.proofs.Prelude.{max_is}
use Rattle.move_read.proofs.Etypes.{entries_valid}
use Rattle.move_read.proofs.Walking.{move_tiled, walk_valid, walk_held, walk_step}
use Rattle.move_end.proofs.Ending.{end_none, from_allowed, ending_none, ending_fits, ending_more, ending_end}
use Rattle.move_end.proofs.write_end.Goals as goal

pub returns-then-count-eq0 : goal.returns-then-count-eq0
returns-then-count-eq0 c = search end_none

pub reach-reach-requires : goal.reach-reach-requires
reach-reach-requires c = search entries_valid

pub spot_of-spot-requires : goal.spot_of-spot-requires
spot_of-spot-requires c = search (move_tiled, from_allowed)

pub loop-init : goal.loop-init
loop-init c = search ending_none

pub begin_at-place-requires : goal.begin_at-place-requires
begin_at-place-requires c = search walk_valid

pub overflow_add-one : goal.overflow_add-one
overflow_add-one c = search ending_fits

pub next_spot-spot-requires : goal.next_spot-spot-requires
next_spot-spot-requires c = search (walk_held, walk_step)

pub loop-preserved : goal.loop-preserved
loop-preserved c = search (ending_more, max_is)

pub returns : goal.returns
returns c = search ending_end
