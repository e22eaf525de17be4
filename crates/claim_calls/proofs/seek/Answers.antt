-- `seek` cites the law about a seek. Assumes nothing.
use Rattle.claim_calls.proofs.Placing.{seek_answered}
use Rattle.claim_calls.proofs.seek.Goals as goal

pub returns : goal.returns
returns c = search seek_answered
