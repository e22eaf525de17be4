-- `data_size` sums the widths. Assumes nothing.
use Rattle.view.proofs.Etypes.{summed_none, summed_more, summed_end, entry_held, entry_scaled, sum_fits}
use Rattle.view.proofs.View.data_size.Goals as goal

pub loop-i-init : goal.loop-i-init
loop-i-init c = search summed_none

pub offset_bounds-self-i : goal.offset_bounds-self-i
offset_bounds-self-i c = search entry_scaled

pub bounds-self-i : goal.bounds-self-i
bounds-self-i c = search entry_held

pub overflow_add-size : goal.overflow_add-size
overflow_add-size c = search sum_fits

pub loop-i-preserved : goal.loop-i-preserved
loop-i-preserved c = search summed_more

pub returns : goal.returns
returns c = search summed_end
