-- `fill_lists` writes each list by one loop; what the loops store is the view's typemaps on paper. Assumes nothing.
use Rattle.view_typemap.proofs.Typemaps.{etype_room, filetype_room, etype_signed, filetype_signed, etype_widths_are, etype_displacements_are, filetype_widths_are, filetype_displacements_are}
use Rattle.view_typemap.proofs.fill_lists.Goals as goal

pub fill_widths-requires : goal.fill_widths-requires
fill_widths-requires c = search etype_room

pub fill_displacements-requires : goal.fill_displacements-requires
fill_displacements-requires c = search (etype_room, etype_signed)

pub fill_widths-requires-2 : goal.fill_widths-requires-2
fill_widths-requires-2 c = search filetype_room

pub fill_displacements-requires-2 : goal.fill_displacements-requires-2
fill_displacements-requires-2 c = search (filetype_room, filetype_signed)

pub returns : goal.returns
returns c = search (etype_widths_are, etype_displacements_are, filetype_widths_are, filetype_displacements_are)
