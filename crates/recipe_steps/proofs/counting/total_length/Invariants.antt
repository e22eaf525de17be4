-- `total_length` adds up the block lengths until the sum is above 256. Assumes nothing.
use Rattle.laws.proofs.Prelude.{◌+◌, ◌≤◌, ◌≡◌, total}
use Rattle.recipe_types.specs.Recipes.{item_number}
use Rattle.recipe_steps.proofs.counting.total_length.Given as goal

abbrev pub invariant-loop-i : goal.invariant-loop-i
invariant-loop-i l = (l.sum ≡ total (λ k. item_number l.items (l.first + k) 0) l.i) × (l.sum ≤ 256)
