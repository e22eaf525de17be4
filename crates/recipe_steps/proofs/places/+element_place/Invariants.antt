-- The measure is the number of dimensions.
use Rattle.recipe_steps.proofs.places.+element_place.Given as goal

abbrev pub decreases-element_place : goal.decreases-element_place
decreases-element_place l = l.n
