-- `place` puts the copies of what a step names one after another, each by a call of itself for the earlier step, which has a smaller number. Assumes nothing.
use Rattle.laws.proofs.Prelude.{rules}
use Rattle.recipe_place.proofs.Descending.{basic_of, placed_basic, named_row, descend_none, descend_fits, descend_in_widths, descend_in_displacements, descend_asked, descend_more, descend_end, descend_falls}
use Rattle.recipe_place.proofs.+place.Goals as goal

pub place_basic-requires : goal.place_basic-requires
place_basic-requires t c = search basic_of

pub returns-then-row-eq-BASIC : goal.returns-then-row-eq-BASIC
returns-then-row-eq-BASIC t c = search placed_basic

pub shape_at-below-requires : goal.shape_at-below-requires
shape_at-below-requires t c = (search named_row, search rules)

pub loop-k-init : goal.loop-k-init
loop-k-init t c = search descend_none

pub copy_shift-to-requires : goal.copy_shift-to-requires
copy_shift-to-requires t c = search descend_fits

pub slice_bounds-place-count : goal.slice_bounds-place-count
slice_bounds-place-count t c = search descend_in_widths

pub slice_bounds-place-start : goal.slice_bounds-place-start
slice_bounds-place-start t c = search descend_in_widths

pub slice_bounds-place-count-in-loop-k : goal.slice_bounds-place-count-in-loop-k
slice_bounds-place-count-in-loop-k t c = search descend_in_displacements

pub slice_bounds-place-start-in-loop-k : goal.slice_bounds-place-start-in-loop-k
slice_bounds-place-start-in-loop-k t c = search descend_in_displacements

pub place-requires : goal.place-requires
place-requires t c = (search descend_falls, search descend_asked)

pub loop-k-preserved : goal.loop-k-preserved
loop-k-preserved t c = search descend_more

pub returns : goal.returns
returns t c = search descend_end
