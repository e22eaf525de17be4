-- `judge` judges the steps in order, and the last one by checks 32 and 33 too. Assumes nothing.
use Rattle.laws.proofs.Prelude.{◌-◌, ◌/◌, length, rules}
use Rattle.recipe.proofs.Judging.{FaultOf, judging_none, judging_below, judging_stop, judging_some, judging_last, judging_end, judged_count}
use Rattle.recipe.proofs.judge.Goals as goal

pub returns-then-not-steps_allowed : goal.returns-then-not-steps_allowed
returns-then-not-steps_allowed c = search judged_count

pub loop-i-init : goal.loop-i-init
loop-i-init c = search judging_none

pub judge_step-requires : goal.judge_step-requires
judge_step-requires c = (search rules, search judging_below)

pub returns-in_err-map_err : goal.returns-in_err-map_err
returns-in_err-map_err c =
    let f : FaultOf c.judge_step.result c.map_err.result c.loop-i.i-counter = search rules in
    judging_stop _ _ _ _ _ _ _ _ _ _ _ _ _ c.loop-i.invariant c.loop-i-test.true c.judge_step.ensures f c.in_err-map_err.was c.from_residual.ensures.1

pub overflow_sub-last : goal.overflow_sub-last
overflow_sub-last c = search judging_some

pub last_refusal-requires : goal.last_refusal-requires
last_refusal-requires c = search judging_last

pub returns : goal.returns
returns c =
    let f : FaultOf c.last_refusal.result c.map_err-2.result (length c.args.recipe.now.steps.now / 6 - 1) = search rules in
    judging_end _ _ _ _ _ _ _ _ _ c.loop-i.invariant c.loop-i-test.false c.last_refusal.ensures f
