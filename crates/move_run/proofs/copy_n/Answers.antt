-- `copy_n` puts the bytes of the source in the place of the target's. Assumes nothing.
use Rattle.move_run.proofs.Running.{run_copied}
use Rattle.move_run.proofs.copy_n.Goals as goal

pub returns : goal.returns
returns g c = search run_copied
