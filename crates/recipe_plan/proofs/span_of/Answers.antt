-- `span_of` compares each place with the least and the greatest before it. Assumes nothing.
use Rattle.laws.proofs.Prelude.{arith}
use Rattle.recipe_plan.proofs.Spanning.{span_one, span_more, span_end}
use Rattle.recipe_plan.proofs.span_of.Goals as goal

pub loop-k-init : goal.loop-k-init
loop-k-init c = search span_one

pub loop-k-preserved : goal.loop-k-preserved
loop-k-preserved c = search span_more

pub returns : goal.returns
returns c = span_end _ _ _ _ _ c.loop-k.invariant (c.loop-k.auto.k-end (omega (arith, c.requires))) (omega arith)
