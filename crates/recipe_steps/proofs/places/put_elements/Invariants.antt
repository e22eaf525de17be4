-- `put_elements` puts the places one by one. Assumes nothing.
use Rattle.recipe_types.specs.Typemaps.{element_place}
use Rattle.recipe_steps.specs.Parts.{dimensions_from, Put}
use Rattle.recipe_steps.proofs.places.put_elements.Given as goal

abbrev pub invariant-loop-k : goal.invariant-loop-k
invariant-loop-k l = Put (element_place (dimensions_from l.items l.first) l.n) l.k l.initial.place-items l.place-items
