-- `copy_in` copies entry after entry; together they are the packed data, each at its place. Assumes nothing.
use Rattle.laws.proofs.Prelude.{length, nth}
use Rattle.move_etype.specs.Parts.{place_in}
use Rattle.move_etype.proofs.Copying.{Copying}
use Rattle.move_etype.proofs.copy_in.Given as goal

abbrev pub invariant-loop-i : goal.invariant-loop-i
invariant-loop-i l = Copying l.n l.view.widths l.view.displacements l.begin (length l.initial.file) (length l.part) (place_in l.n l.view.widths l.view.displacements l.begin) (nth l.part) l.initial.file l.file l.i l.taken
