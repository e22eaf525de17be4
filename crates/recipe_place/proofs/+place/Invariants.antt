-- `place` puts the copies of what a step names one after another, each by a call of itself for the earlier step, which has a smaller number. Assumes nothing.
use Rattle.recipe_place.proofs.Descending.{Descending}
use Rattle.recipe_place.proofs.+place.Given as goal

abbrev pub invariant-loop-k : goal.invariant-loop-k
invariant-loop-k l =
    Descending l.rows l.places l.i l.shift l.k-end l.step l.below l.k l.initial.widths l.widths l.initial.displacements l.displacements

-- the measure: the step's number
abbrev pub decreases-place : goal.decreases-place
decreases-place l = l.i
