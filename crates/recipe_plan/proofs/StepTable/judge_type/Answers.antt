-- `StepTable::judge_type` follows checks 30 and 31, on the numbers of the type that the step names. Assumes nothing.
use Rattle.laws.proofs.Prelude.{rules}
use Rattle.recipe_plan.proofs.Judging.{sound_of, nameable}
use Rattle.recipe_plan.proofs.Following.{judge_some, judge_few, judge_entries, judge_near, judge_far, judge_asked, judge_put}
use Rattle.recipe_plan.proofs.StepTable.judge_type.Goals as goal

pub shape_named-below-requires : goal.shape_named-below-requires
shape_named-below-requires c = (search nameable, search rules)

pub few_copies-requires : goal.few_copies-requires
few_copies-requires c = (search sound_of, search judge_some, search judge_few)

pub returns-in_err-n : goal.returns-in_err-n
returns-in_err-n c = let w = c.in_err-n.was in let l = c.from_residual.ensures.1 in search judge_entries

pub near_enough-requires : goal.near_enough-requires
near_enough-requires c = let w = c.in_ok-n.was in (search sound_of, search judge_near)

pub returns-then-not-near_enough : goal.returns-then-not-near_enough
returns-then-not-near_enough c = let w = c.in_ok-n.was in search judge_far

pub put_step-requires : goal.put_step-requires
put_step-requires c = let w = c.in_ok-n.was in search judge_asked

pub returns : goal.returns
returns c = let w = c.in_ok-n.was in search judge_put
