-- `set_recipe` makes the recipe of a basic width. Assumes nothing.
use Rattle.laws.proofs.Prelude.{refl, to_z-of_z}
use Rattle.claim_recipe.proofs.Flattened.{width_set}
use Rattle.claim_recipe.proofs.set_recipe.Goals as goal

pub returns : goal.returns
returns c = width_set _ _ _ _ _ _ _ _ c.set_recipes.ensures refl (to_z-of_z c.ranges.displacement)
