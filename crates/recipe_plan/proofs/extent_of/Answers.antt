-- `extent_of` goes by the kind of the step; an array that is near is small. Assumes nothing.
use Rattle.recipe_plan.proofs.Making.{array_fits, extent_array, extent_copies}
use Rattle.recipe_plan.proofs.extent_of.Goals as goal

pub overflow_mul-result : goal.overflow_mul-result
overflow_mul-result c = search array_fits

pub returns-in-4 : goal.returns-in-4
returns-in-4 c = search extent_array

pub returns-in_default : goal.returns-in_default
returns-in_default c = search extent_copies
