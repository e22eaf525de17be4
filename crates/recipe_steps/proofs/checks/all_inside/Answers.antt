-- `all_inside` asks each dimension in order. Assumes nothing.
use Rattle.laws.proofs.Prelude.{◌+◌, rules}
use Rattle.recipe_types.specs.Recipes.{inside, dimension_at}
use Rattle.recipe_steps.proofs.Ranges.{all_in_range}
use Rattle.recipe_steps.proofs.checks.all_inside.Goals as goal

pub returns : goal.returns
returns c = all_in_range (λ i. inside (dimension_at c.args.items.now (c.args.first + i))) _ _ _ _ c.all.ensures.ran (λ x b q k. search rules)
