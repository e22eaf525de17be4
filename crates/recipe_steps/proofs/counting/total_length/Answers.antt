-- A sum above 256 of the first blocks is below that of all. Assumes nothing.
use Rattle.laws.proofs.Prelude.{◌+◌, arith, total_part}
use Rattle.recipe_types.specs.Recipes.{item_number}
use Rattle.recipe_steps.proofs.Capping.{capped_above}
use Rattle.recipe_steps.proofs.counting.total_length.Goals as goal

pub returns-then-sum-gt-MAX_COPIES : goal.returns-then-sum-gt-MAX_COPIES
returns-then-sum-gt-MAX_COPIES c = capped_above _ _ _ (omega arith) (omega (arith, total_part (λ i. item_number c.args.items.now (c.args.first + i) 0) c.loop-i.i c.args.n (omega arith)))
