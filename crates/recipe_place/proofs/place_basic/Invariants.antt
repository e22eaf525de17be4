-- `place_basic` puts a displacement a turn after those placed before. Assumes nothing.
use Rattle.recipe_place.proofs.Placing.{Displacing}
use Rattle.recipe_place.proofs.place_basic.Given as goal

abbrev pub invariant-loop-k : goal.invariant-loop-k
invariant-loop-k l =
    Displacing l.places l.i l.row.name l.shift l.row.copies l.k l.initial.displacement-items l.displacement-items
