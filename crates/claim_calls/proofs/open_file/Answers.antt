-- `open_file` cites the law about an open. Assumes nothing.
use Rattle.claim_calls.proofs.Opening.{opened}
use Rattle.claim_calls.proofs.open_file.Goals as goal

pub returns : goal.returns
returns c = search opened
