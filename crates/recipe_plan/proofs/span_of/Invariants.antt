-- `span_of` compares each place with the least and the greatest before it. Assumes nothing.
use Rattle.recipe_types.specs.Parts.{Spans}
use Rattle.recipe_plan.proofs.span_of.Given as goal

abbrev pub invariant-loop-k : goal.invariant-loop-k
invariant-loop-k l = Spans l.places l.k l.low l.high
