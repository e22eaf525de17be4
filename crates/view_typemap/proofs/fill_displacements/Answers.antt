-- `fill_displacements` stores at each index the displacement of the entry that the remainder of the index names, shifted by the origin of the group that the quotient names. Assumes nothing.
use Rattle.laws.proofs.Prelude.{storing}
use Rattle.view_typemap.proofs.Filling.{displacement_is}
use Rattle.view_typemap.proofs.Fronts.{front_lent}
use Rattle.view_typemap.proofs.fill_displacements.Goals as goal

pub loop-i-init : goal.loop-i-init
loop-i-init c = search storing

pub loop-i-preserved : goal.loop-i-preserved
loop-i-preserved c = search (storing, displacement_is)

pub returns : goal.returns
returns c = search front_lent
