-- `set_filetype` sets what flattening left. Assumes nothing.
use Rattle.laws.proofs.Prelude.{refl, rules, to_z-of_z}
use Rattle.claim_recipe.proofs.Flattened.{widths_room, displacements_room, widths_part, displacements_part, filetype_refused, filetype_judged}
use Rattle.claim_recipe.proofs.set_filetype.Goals as goal

pub returns-then-f-ne0 : goal.returns-then-f-ne0
returns-then-f-ne0 c = search (filetype_refused, rules)

pub slice_bounds-fw-end : goal.slice_bounds-fw-end
slice_bounds-fw-end c = search widths_room

pub slice_bounds-set_view-end : goal.slice_bounds-set_view-end
slice_bounds-set_view-end c = search widths_part

pub slice_bounds-fd-end : goal.slice_bounds-fd-end
slice_bounds-fd-end c = search displacements_room

pub slice_bounds-set_view-end-2 : goal.slice_bounds-set_view-end-2
slice_bounds-set_view-end-2 c = search displacements_part

pub returns : goal.returns
returns c =
    filetype_judged _ _ _ _ _ _ _ _ _ _ _ _ _ _ _ _ c.flatten-f.ensures (search rules) (search rules) c.if-f-ne0.false c.set_view.ensures (to_z-of_z c.ranges.displacement) (to_z-of_z c.ranges.ex) refl
