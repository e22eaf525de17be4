-- `fill_widths` stores at each index the width of the entry that the remainder of the index names. Assumes nothing.
use Rattle.laws.proofs.Prelude.{storing}
use Rattle.view_typemap.proofs.Filling.{width_is}
use Rattle.view_typemap.proofs.Fronts.{front_lent}
use Rattle.view_typemap.proofs.fill_widths.Goals as goal

pub loop-i-init : goal.loop-i-init
loop-i-init c = search storing

pub loop-i-preserved : goal.loop-i-preserved
loop-i-preserved c = search (storing, width_is)

pub returns : goal.returns
returns c = search front_lent
