-- `reach` takes the greatest of the entries' ends. Assumes nothing.
use Rattle.laws.proofs.Prelude.{rules, highest_more, highest_none, max_is}
use Rattle.view.proofs.Etypes.{end_fits, reach_is}
use Rattle.view.proofs.View.reach.Goals as goal

pub loop-i-init : goal.loop-i-init
loop-i-init c = search (rules, highest_none)

pub overflow_add-end : goal.overflow_add-end
overflow_add-end c = search end_fits

pub loop-i-preserved : goal.loop-i-preserved
loop-i-preserved c = search (rules, highest_more, max_is)

pub returns : goal.returns
returns c = search reach_is
