-- `copy_run` copies by the width: the one left is 1. Assumes nothing.
use Rattle.move_run.proofs.Running.{one_inside, one_copied}
use Rattle.move_run.proofs.copy_run.Goals as goal

pub copy_n-requires-in_default : goal.copy_n-requires-in_default
copy_n-requires-in_default c = search one_inside

pub returns-in_default : goal.returns-in_default
returns-in_default c = search one_copied
