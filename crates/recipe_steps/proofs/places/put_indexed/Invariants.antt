-- `put_indexed` puts a run a block, behind the copies of the blocks before it. Assumes nothing.
use Rattle.laws.proofs.Prelude.{◌≡◌, total}
use Rattle.recipe_types.specs.Typemaps.{block_place}
use Rattle.recipe_steps.specs.Parts.{numbers_from, blocks_from, Put}
use Rattle.recipe_steps.proofs.places.put_indexed.Given as goal

abbrev pub invariant-loop-i : goal.invariant-loop-i
invariant-loop-i l = (l.at ≡ total (numbers_from l.items l.first 0) l.i) × Put (block_place (blocks_from l.items l.first) l.i) l.at l.initial.out l.out
