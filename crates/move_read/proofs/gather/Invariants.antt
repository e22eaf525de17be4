-- `gather` copies each etype that lies in the file and stops at the first that does not. Assumes nothing.
use Rattle.view.specs.Types.{whole}
use Rattle.move_read.proofs.Gathering.{Gathering}
use Rattle.move_read.proofs.gather.Given as goal

abbrev pub invariant-loop-t : goal.invariant-loop-t
invariant-loop-t l = Gathering l.view l.file l.size (whole l.fn.access.offset.0) l.count l.packed l.reach l.initial.buf l.buf l.t l.spot
