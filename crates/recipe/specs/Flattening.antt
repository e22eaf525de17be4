-- Must be believed. Document 02, order 4: what flattening a recipe answers and writes, and which step is at fault.
use Rattle.std.specs.Prelude.{ℕ, cond, List, ◌≡◌, ltb, ℤ, pos, length, Option, Some, None}
use Rattle.laws.specs.Checks.{also, granted}
use Rattle.recipe_types.specs.Typemaps.{widths, displacements, extent}
use Rattle.recipe_types.specs.Recipes.{Recipe, steps_allowed, step_count, first_bad, recipe_refusal, meaning, over}
use Rattle.recipe.specs.declared.Flattened.{Flattened}

-- the answer, where the lent lists have these lengths: entry count and extent of what the recipe means, 0 if refused
unfoldable pub flatten_answer : Recipe → ℕ → ℕ → Flattened
flatten_answer r ws ds =
    let n = recipe_refusal r ws ds in
    record { refusal = n; entries = granted n (length (meaning r).entries) 0; extent = granted n (extent (meaning r)) (pos 0) }

-- the whole of it: the answer, and both lists after it; a refusal writes nothing
pub record FlattenDone (r : Recipe) (ws ws' : List ℕ) (ds ds' : List ℤ) (a : Flattened) : Type 0 where
  pub answer : a ≡ flatten_answer r (length ws) (length ds)
  pub widths_after : ws' ≡ granted a.refusal (over (widths (meaning r)) ws) ws
  pub displacements_after : ds' ≡ granted a.refusal (over (displacements (meaning r)) ds) ds

-- the step at fault; a wrong number of steps names none
unfoldable pub faulty_step : Recipe → ℕ → ℕ → Option ℕ
faulty_step r ws ds = cond (also (steps_allowed r) (ltb (first_bad r ws ds) (step_count r))) (Some (first_bad r ws ds)) None
