-- `copy_out` copies entry after entry; together they are the packed data. Assumes nothing.
use Rattle.laws.proofs.Prelude.{length}
use Rattle.move_etype.specs.Parts.{byte_in}
use Rattle.move_etype.proofs.Copying.{Copying}
use Rattle.move_etype.proofs.copy_out.Given as goal

abbrev pub invariant-loop-i : goal.invariant-loop-i
invariant-loop-i l = Copying l.n l.view.widths l.view.displacements l.begin (length l.file) (length l.initial.part) (λ k. k) (byte_in l.n l.view.widths l.view.displacements l.file l.begin) l.initial.part l.part l.i l.packed
