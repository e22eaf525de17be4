-- Need not be believed. What judging the steps of a recipe finds.
use Rattle.std.specs.Prelude.{ℕ, List, ◌≡◌, leb, eqb, Option, None, Result, Ok, Err}
use Rattle.laws.specs.Checks.{also, check}
use Rattle.recipe_types.specs.declared.Shape.{Shape}
use Rattle.recipe_types.specs.Recipes.{Recipe, step_count, recipe_refusal}
use Rattle.recipe_plan.specs.Parts.{recipe_refusal_number, Table}
use Rattle.recipe.specs.declared.Fault.{Fault}
use Rattle.recipe.specs.Flattening.{faulty_step}

-- checks 32 and 33, by the numbers of the last step's type
unfoldable pub last_by : Shape → ℕ → ℕ → ℕ
last_by t ws ds =
    check (eqb t.least t.base) 32
    (check (also (leb t.entries ws) (leb t.entries ds)) 33 0)

-- the number of the refusal in an answer, 0 if it is granted, and the step at fault
abbrev pub judged_refusal : Result Unit Fault → ℕ
judged_refusal (Ok _) = 0
judged_refusal (Err fault) = recipe_refusal_number fault.refusal

abbrev pub judged_step : Result Unit Fault → Option ℕ
judged_step (Ok _) = None
judged_step (Err fault) = fault.step

-- both, and the table of all steps if there is no refusal
pub record AllJudged (r : Recipe) (ws ds : ℕ) (rows places : List ℕ) (j : Result Unit Fault) : Type 0 where
  pub answer : judged_refusal j ≡ recipe_refusal r ws ds
  pub step : judged_step j ≡ faulty_step r ws ds
  pub table : judged_refusal j ≡ 0 → Table r rows places (step_count r)
