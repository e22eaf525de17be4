-- `look_up` cites the law about a lookup. Assumes nothing.
use Rattle.claim_write.proofs.Owners.{looked_up}
use Rattle.claim_write.proofs.look_up.Goals as goal

pub returns : goal.returns
returns c = search looked_up
