-- `owner_in_instance` tries entry after entry. The invariant: no entry before i has a pair of the byte, and their widths are summed. Assumes nothing.
use Rattle.view_owner.proofs.Instances.{tried_none, tried_more, tried_stop, start_fits, packed_fits, data_small, tried_end}
use Rattle.view_owner.proofs.owner_in_instance.Goals as goal

pub loop-i-init : goal.loop-i-init
loop-i-init c = search tried_none

pub overflow_add-start : goal.overflow_add-start
overflow_add-start c = search start_fits

pub owner_in_entry-owner-requires : goal.owner_in_entry-owner-requires
owner_in_entry-owner-requires c = search data_small

pub returns-in-Some : goal.returns-in-Some
returns-in-Some c = search tried_stop

pub overflow_add-packed : goal.overflow_add-packed
overflow_add-packed c = search packed_fits

pub loop-i-preserved : goal.loop-i-preserved
loop-i-preserved c = search tried_more

pub returns : goal.returns
returns c = search tried_end
