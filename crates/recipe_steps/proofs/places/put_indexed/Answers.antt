-- The run of the next block follows those before it. Assumes nothing.
use Rattle.laws.proofs.Prelude.{arith, total_more}
use Rattle.recipe_steps.specs.Parts.{numbers_from}
use Rattle.recipe_steps.proofs.Indexing.{indexed_put}
use Rattle.recipe_steps.proofs.places.put_indexed.Goals as goal

pub loop-i-preserved : goal.loop-i-preserved
unfolding numbers_from
loop-i-preserved c = (omega (arith, total_more (numbers_from c.args.items.now c.args.first 0) c.loop-i.i), search indexed_put)
