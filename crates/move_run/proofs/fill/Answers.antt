-- `fill` puts the value at each place from the lower of the two on. Assumes nothing.
use Rattle.move_run.proofs.Running.{run_filled}
use Rattle.move_run.proofs.fill.Goals as goal

pub returns : goal.returns
returns c = run_filled _ _ _ _ _ _ c.requires c.min-begin.ensures (c.fill.ensures.after (λ y q. q))
