-- `end_of_file` cites the law about an end of file. Assumes nothing.
use Rattle.claim_calls.proofs.Placing.{end_answered}
use Rattle.claim_calls.proofs.end_of_file.Goals as goal

pub returns : goal.returns
returns c = search end_answered
