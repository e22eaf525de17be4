-- `scatter` stores each etype's data at its place; the etype lies in the file, as the write's end does. Assumes nothing.
use Rattle.view.specs.Types.{whole}
use Rattle.move_write.proofs.Scattering.{Scattering}
use Rattle.move_write.proofs.scatter.Given as goal

abbrev pub invariant-loop-t : goal.invariant-loop-t
invariant-loop-t l = Scattering l.view l.buf (whole l.fn.access.offset.0) l.count l.packed l.initial.file l.file l.t l.spot
