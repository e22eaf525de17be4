-- `fill_widths` stores at each index the width of the entry that the remainder of the index names. Assumes nothing.
use Rattle.laws.proofs.Prelude.{◌≡◌, front}
use Rattle.view_typemap.specs.Parts.{group_width}
use Rattle.view_typemap.proofs.fill_widths.Given as goal

abbrev pub invariant-loop-i : goal.invariant-loop-i
invariant-loop-i l = l.place-items ≡ front (group_width l.ws l.n) l.i l.initial.place-items
