-- `shape_made` sets the lower bound by whether the step sets the bounds. Assumes nothing.
use Rattle.recipe_plan.proofs.Making.{made_bounded, made_free}
use Rattle.recipe_plan.proofs.shape_made.Goals as goal

pub returns-then-sets_bounds : goal.returns-then-sets_bounds
returns-then-sets_bounds c = search made_bounded

pub returns-else-sets_bounds : goal.returns-else-sets_bounds
returns-else-sets_bounds c = search made_free
