-- The last dimension runs fastest. Assumes nothing.
use Rattle.recipe_steps.proofs.Elements.{element_more}
use Rattle.recipe_steps.proofs.places.+element_place.Goals as goal

pub returns : goal.returns
returns t c = search element_more
