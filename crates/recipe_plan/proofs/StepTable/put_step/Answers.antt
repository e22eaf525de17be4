-- `StepTable::put_step` puts the places of the copies, and the row if the limits are kept. Assumes nothing.
use Rattle.recipe_plan.proofs.Putting.{put_broken, put_kept}
use Rattle.recipe_plan.proofs.StepTable.put_step.Goals as goal

pub returns-in_err-made : goal.returns-in_err-made
returns-in_err-made c = let w = c.in_err-made.was in let l = c.from_residual.ensures.1 in search put_broken

pub returns : goal.returns
returns c = let w = c.in_ok-made.was in search put_kept
