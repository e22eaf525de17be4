-- `set_recipes` lends what flattening the etype's recipe left. Assumes nothing.
use Rattle.laws.proofs.Prelude.{refl, rules, to_z-of_z}
use Rattle.claim_recipe.proofs.Flattened.{widths_room, displacements_room, widths_part, displacements_part, recipes_refused, recipes_judged}
use Rattle.claim_recipe.proofs.set_recipes.Goals as goal

pub returns-then-e-ne0 : goal.returns-then-e-ne0
returns-then-e-ne0 c = search (recipes_refused, rules)

pub slice_bounds-ew-end : goal.slice_bounds-ew-end
slice_bounds-ew-end c = search widths_room

pub slice_bounds-set_filetype-end : goal.slice_bounds-set_filetype-end
slice_bounds-set_filetype-end c = search widths_part

pub slice_bounds-ed-end : goal.slice_bounds-ed-end
slice_bounds-ed-end c = search displacements_room

pub slice_bounds-set_filetype-end-2 : goal.slice_bounds-set_filetype-end-2
slice_bounds-set_filetype-end-2 c = search displacements_part

pub returns : goal.returns
returns c =
    recipes_judged _ _ _ _ _ _ _ _ _ _ _ _ _ c.flatten-e.ensures (search rules) (search rules) c.if-e-ne0.false c.set_filetype.ensures (to_z-of_z c.ranges.displacement) refl
