-- Which kinds set the bounds.
use Rattle.laws.proofs.Prelude.{ℕ, ◌≡◌, arith, List, eqb, either}
use Rattle.std.proofs.lemmas.Bool.Decides.{nat_tests}
use Rattle.recipe_types.specs.Recipes.{step_of}
use Rattle.recipe_types.specs.Parts.{sets_bounds}
use Rattle.recipe_steps.specs.declared.StepNumbers.{StepNumbers}
use Rattle.recipe_steps.specs.Parts.{step_by}

-- `sets_bounds` answers for the step of these numbers, whatever the items
pub sets_is : (items : List ℕ) (s : StepNumbers) → either (eqb s.kind 4) (eqb s.kind 5) ≡ sets_bounds (step_by items s)
unfolding sets_bounds step_by step_of either
sets_is items s = grind (arith, nat_tests)
