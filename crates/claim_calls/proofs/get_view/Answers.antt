-- `get_view` cites the law about a giving back. Assumes nothing.
use Rattle.claim_calls.proofs.Giving.{view_got}
use Rattle.claim_calls.proofs.get_view.Goals as goal

pub returns : goal.returns
returns c = search view_got
