-- `put_line` stores the five numbers side by side. Assumes nothing.
use Rattle.laws.proofs.Prelude.{arith}
use Rattle.replay_run.proofs.Turning.{line_stored}
use Rattle.replay_run.proofs.put_line.Goals as goal

pub returns : goal.returns
returns c = line_stored _ _ _ _ _ c.requires (omega arith) c.copy_from_slice.ensures.after
