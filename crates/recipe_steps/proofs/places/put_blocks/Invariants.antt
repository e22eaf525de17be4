-- `put_blocks` puts a run a block. Assumes nothing.
use Rattle.laws.proofs.Prelude.{◌*◌, sub_ℕ}
use Rattle.recipe_types.specs.Parts.{bias}
use Rattle.recipe_steps.specs.Parts.{vector_place, Put}
use Rattle.recipe_steps.proofs.places.put_blocks.Given as goal

abbrev pub invariant-loop-i : goal.invariant-loop-i
invariant-loop-i l = Put (vector_place l.each (sub_ℕ l.stride bias)) (l.i * l.each) l.initial.out l.out
