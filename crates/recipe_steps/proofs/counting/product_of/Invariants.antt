-- `product_of` multiplies until the product is above the limit. Assumes nothing.
use Rattle.laws.proofs.Prelude.{◌+◌, ◌≤◌, ◌≡◌}
use Rattle.recipe_types.specs.Typemaps.{product}
use Rattle.recipe_types.specs.Recipes.{item_number}
use Rattle.recipe_steps.proofs.counting.product_of.Given as goal

abbrev pub invariant-loop-i : goal.invariant-loop-i
invariant-loop-i l = (l.product ≡ product (λ k. item_number l.items (l.first + k) l.which) l.i) × (l.product ≤ l.limit)
