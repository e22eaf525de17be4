-- `judge` judges the steps in order, and the last one by checks 32 and 33 too. Assumes nothing.
use Rattle.recipe_types.specs.Recipes.{recipe_of}
use Rattle.recipe.proofs.Judging.{Judging}
use Rattle.recipe.proofs.judge.Given as goal

abbrev pub invariant-loop-i : goal.invariant-loop-i
invariant-loop-i l =
    Judging (recipe_of l.recipe.steps.now l.recipe.items.now) l.widths l.displacements l.table.rows l.table.places l.i-counter l.n
