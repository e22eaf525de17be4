-- A product of the first factors above the limit is below that of all. Assumes nothing.
use Rattle.recipe_steps.proofs.Capping.{product_over}
use Rattle.recipe_steps.proofs.counting.product_of.Goals as goal

pub returns-then-limit-product : goal.returns-then-limit-product
returns-then-limit-product c = product_over c.requires _ _ _ _ c.loop-i-test.true c.loop-i.invariant.0 c.item_number.ensures c.saturating_mul-product.ensures c.if-limit-product.true
