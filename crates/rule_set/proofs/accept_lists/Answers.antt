-- `accept_lists` hands natural numbers to `accept_record`. Assumes nothing.
use Rattle.rule_set.proofs.Answering.{naturals_ask, groups_ask, naturals_room, naturals_used, record_asks, shapes_ask, shaped_as}
use Rattle.rule_set.proofs.accept_lists.Goals as goal

pub copy_displacements-requires : goal.copy_displacements-requires
copy_displacements-requires c = search naturals_ask

pub slice_bounds-naturals-end : goal.slice_bounds-naturals-end
slice_bounds-naturals-end c = search naturals_room

pub slice_bounds-used-end : goal.slice_bounds-used-end
slice_bounds-used-end c = search naturals_used

pub nonzero_div-groups : goal.nonzero_div-groups
nonzero_div-groups c = search groups_ask

pub accept_record-requires : goal.accept_record-requires
accept_record-requires c = (search record_asks, search shapes_ask)

pub returns : goal.returns
returns c = search shaped_as
