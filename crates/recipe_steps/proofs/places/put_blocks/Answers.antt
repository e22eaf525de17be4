-- The run of the next block follows those before it. Assumes nothing.
use Rattle.recipe_steps.proofs.Placing.{block_put}
use Rattle.recipe_steps.proofs.places.put_blocks.Goals as goal

pub loop-i-preserved : goal.loop-i-preserved
loop-i-preserved c = search block_put
