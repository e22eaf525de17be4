-- A step by its numbers: it is the recipe's step, and what it is for each kind.
use Rattle.laws.proofs.Prelude.{ℕ, ◌+◌, ◌*◌, ◌≡◌, List, add-zero}
use Rattle.recipe_types.specs.Recipes.{Recipe, step_of, recipe_step, step_number, names, block_at, dimension_at, signed, contiguous_step, vector_step, indexed_step, subarray_step, resized_step}
use Rattle.recipe_steps.specs.declared.StepNumbers.{StepNumbers}
use Rattle.recipe_steps.specs.Parts.{numbers_at, step_by, names_by}

pub names_is : (r : Recipe) (i : ℕ) → names_by (numbers_at r.steps i) i ≡ names r i
unfolding names_by numbers_at names step_number
names_is r i = rw (add-zero (6 * i))

pub step_is : (r : Recipe) (i : ℕ) → step_by r.items (numbers_at r.steps i) ≡ recipe_step r i
unfolding step_by numbers_at recipe_step step_number
step_is r i = rw (add-zero (6 * i))

module _ (items : List ℕ) (s : StepNumbers) where
  pub kind_1 : s.kind ≡ 1 → step_by items s ≡ contiguous_step s.a
  unfolding step_by step_of
  kind_1 e = rw e

  pub kind_2 : s.kind ≡ 2 → step_by items s ≡ vector_step s.a s.b (signed s.c)
  unfolding step_by step_of
  kind_2 e = rw e

  pub kind_3 : s.kind ≡ 3 → step_by items s ≡ indexed_step s.b (λ i. block_at items (s.a + i))
  unfolding step_by step_of
  kind_3 e = rw e

  pub kind_4 : s.kind ≡ 4 → step_by items s ≡ subarray_step s.b (λ i. dimension_at items (s.a + i))
  unfolding step_by step_of
  kind_4 e = rw e

  pub kind_5 : s.kind ≡ 5 → step_by items s ≡ resized_step (signed s.a)
  unfolding step_by step_of
  kind_5 e = rw e
