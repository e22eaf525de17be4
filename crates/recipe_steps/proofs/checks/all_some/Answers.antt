-- `all_some` asks each item in order. Assumes nothing.
use Rattle.laws.proofs.Prelude.{◌+◌, rules}
use borrow.Author.Tests.{tests}
use Rattle.recipe_types.specs.Recipes.{some_of, item_number}
use Rattle.recipe_steps.proofs.Ranges.{all_in_range}
use Rattle.recipe_steps.proofs.checks.all_some.Goals as goal

pub returns : goal.returns
unfolding some_of
returns c = all_in_range (λ i. some_of (item_number c.args.items.now (c.args.first + i) c.args.which)) _ _ _ _ c.all.ensures.ran (λ x b q k. search (rules, tests))
