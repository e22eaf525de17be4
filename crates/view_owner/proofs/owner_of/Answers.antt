-- `owner_of` tries instance after instance. The invariant: no instance before g has a pair of the byte. Assumes nothing.
use Rattle.view_owner.proofs.Firsts.{missed_none}
use Rattle.view_owner.proofs.Whole.{lookup_more, lookup_stop, origin_held, origin_scaled, begin_fits, instance_valid, lookup_end}
use Rattle.view_owner.proofs.owner_of.Goals as goal

pub loop-g-init : goal.loop-g-init
loop-g-init c = search missed_none

pub offset_bounds-view-g : goal.offset_bounds-view-g
offset_bounds-view-g c = search origin_scaled

pub bounds-view-g : goal.bounds-view-g
bounds-view-g c = search origin_held

pub overflow_add-begin : goal.overflow_add-begin
overflow_add-begin c = search begin_fits

pub owner_in_instance-owner-requires : goal.owner_in_instance-owner-requires
owner_in_instance-owner-requires c = search instance_valid

pub returns-in-Some : goal.returns-in-Some
returns-in-Some c = search lookup_stop

pub loop-g-preserved : goal.loop-g-preserved
loop-g-preserved c = search lookup_more

pub returns : goal.returns
returns c = search lookup_end
