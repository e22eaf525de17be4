-- `blocks_near` asks each block in order. Assumes nothing.
use Rattle.laws.proofs.Prelude.{◌+◌, to_z, w64, rules}
use Rattle.recipe_types.specs.Recipes.{item_number}
use Rattle.recipe_types.specs.Parts.{near}
use Rattle.recipe_steps.proofs.Ranges.{all_in_range}
use Rattle.recipe_steps.proofs.counting.blocks_near.Goals as goal

pub returns : goal.returns
returns c = all_in_range (λ i. near (to_z w64 (item_number c.args.items.now (c.args.first + i) 1))) _ _ _ _ c.all.ensures.ran (λ x b q k. search rules)
