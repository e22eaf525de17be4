-- `scatter` stores each etype's data at its place; the etype lies in the file, as the write's end does. Assumes nothing.
use Rattle.view.proofs.Etypes.{widths_valid}
use Rattle.move_read.proofs.Etypes.{entries_valid}
use Rattle.move_read.proofs.Walking.{walk_held, move_offset, move_tiled, walk_valid, walk_step}
use Rattle.move_write.proofs.Scattering.{scatter_none, scattering_none, from_fits, from_inside, scatter_lies, scatter_more}
use Rattle.move_write.proofs.scatter.Goals as goal

pub returns-then-count-eq0 : goal.returns-then-count-eq0
returns-then-count-eq0 c = search scatter_none

pub data_size-packed-requires : goal.data_size-packed-requires
data_size-packed-requires c = search (widths_valid, entries_valid)

pub spot_of-spot-requires : goal.spot_of-spot-requires
spot_of-spot-requires c = search (move_tiled, move_offset)

pub loop-t-init : goal.loop-t-init
loop-t-init c = search scattering_none

pub begin_at-place-requires : goal.begin_at-place-requires
begin_at-place-requires c = search walk_valid

pub overflow_mul-from : goal.overflow_mul-from
overflow_mul-from c = search from_fits

pub slice_bounds-copy_in-count : goal.slice_bounds-copy_in-count
slice_bounds-copy_in-count c = search from_inside

pub slice_bounds-copy_in-start : goal.slice_bounds-copy_in-start
slice_bounds-copy_in-start c = search from_inside

pub copy_in-requires : goal.copy_in-requires
copy_in-requires c = scatter_lies _ _ _ _ _ _ _ _ _ c.loop-t.invariant c.loop-t-test.true _ c.begin_at-place.ensures

pub next_spot-spot-requires : goal.next_spot-spot-requires
next_spot-spot-requires c = search (walk_held, walk_step)

pub loop-t-preserved : goal.loop-t-preserved
loop-t-preserved c = search scatter_more
