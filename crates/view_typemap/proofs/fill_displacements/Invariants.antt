-- `fill_displacements` stores at each index the displacement of the entry that the remainder of the index names, shifted by the origin of the group that the quotient names. Assumes nothing.
use Rattle.laws.proofs.Prelude.{◌≡◌, front}
use Rattle.view_typemap.specs.Parts.{group_displacement}
use Rattle.view_typemap.proofs.fill_displacements.Given as goal

abbrev pub invariant-loop-i : goal.invariant-loop-i
invariant-loop-i l = l.place-items ≡ front (group_displacement l.origins l.ds l.n) l.i l.initial.place-items
