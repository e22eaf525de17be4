-- `set_view` cites the law about a set. Assumes nothing.
use Rattle.claim_calls.proofs.Setting.{lent_set}
use Rattle.claim_calls.proofs.set_view.Goals as goal

pub returns : goal.returns
returns c = search lent_set
