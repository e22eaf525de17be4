-- `two_writes` cites the law about two writes that were made. Assumes nothing.
use Rattle.claim_write.proofs.Differing.{two_writes}
use Rattle.claim_write.proofs.two_writes.Goals as goal

pub returns : goal.returns
returns c = search two_writes
