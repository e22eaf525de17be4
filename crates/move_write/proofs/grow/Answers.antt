-- `grow` fills the gap up to the new size, which it records. Assumes nothing.
use Rattle.move_write.proofs.Scattering.{grow_done}
use Rattle.move_write.proofs.grow.Goals as goal

pub returns : goal.returns
returns c = search grow_done
