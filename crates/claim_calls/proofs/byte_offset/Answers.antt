-- `byte_offset` cites the law about a place query. Assumes nothing.
use Rattle.claim_calls.proofs.Placing.{place_answered}
use Rattle.claim_calls.proofs.byte_offset.Goals as goal

pub returns : goal.returns
returns c = search place_answered
