-- `StepTable::judge_step` follows checks 27 to 29, then those of the type. Assumes nothing.
use Rattle.recipe_plan.proofs.Following.{sound_refused}
use Rattle.recipe_plan.proofs.StepTable.judge_step.Goals as goal

pub returns-in_err-sound_refusal : goal.returns-in_err-sound_refusal
returns-in_err-sound_refusal c = let w = c.in_err-sound_refusal.was in let l = c.from_residual.ensures.1 in search sound_refused
