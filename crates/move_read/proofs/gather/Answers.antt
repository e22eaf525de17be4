-- `gather` copies each etype that lies in the file and stops at the first that does not. Assumes nothing.
use Rattle.view.proofs.Etypes.{widths_valid}
use Rattle.move_read.proofs.Etypes.{entries_valid}
use Rattle.move_read.proofs.Gathering.{move_none, gathering_none, gather_all, gather_end_fits, gather_stop, from_fits, from_inside, gather_lies, gather_more}
use Rattle.move_read.proofs.Walking.{walk_held, move_offset, move_tiled, walk_valid, walk_step}
use Rattle.move_read.proofs.gather.Goals as goal

pub returns-then-count-eq0 : goal.returns-then-count-eq0
returns-then-count-eq0 c = search move_none

pub data_size-packed-requires : goal.data_size-packed-requires
data_size-packed-requires c = search (widths_valid, entries_valid)

pub reach-reach-requires : goal.reach-reach-requires
reach-reach-requires c = search entries_valid

pub spot_of-spot-requires : goal.spot_of-spot-requires
spot_of-spot-requires c = search (move_tiled, move_offset)

pub loop-t-init : goal.loop-t-init
loop-t-init c = search gathering_none

pub begin_at-place-requires : goal.begin_at-place-requires
begin_at-place-requires c = search walk_valid

pub overflow_add-end : goal.overflow_add-end
overflow_add-end c = search gather_end_fits

pub returns-then-size-end : goal.returns-then-size-end
returns-then-size-end c = search gather_stop

pub overflow_mul-from : goal.overflow_mul-from
overflow_mul-from c = search from_fits

pub slice_bounds-copy_out-count : goal.slice_bounds-copy_out-count
slice_bounds-copy_out-count c = search from_inside

pub slice_bounds-copy_out-start : goal.slice_bounds-copy_out-start
slice_bounds-copy_out-start c = search from_inside

pub copy_out-requires : goal.copy_out-requires
copy_out-requires c = gather_lies _ _ _ _ _ _ _ _ _ _ _ c.loop-t.invariant c.loop-t-test.true _ c.begin_at-place.ensures c.if-size-end.false

pub next_spot-spot-requires : goal.next_spot-spot-requires
next_spot-spot-requires c = search (walk_held, walk_step)

pub loop-t-preserved : goal.loop-t-preserved
loop-t-preserved c = search gather_more

pub returns : goal.returns
returns c = search gather_all
