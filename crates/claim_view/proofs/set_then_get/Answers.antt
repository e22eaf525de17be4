-- `set_then_get` cites the law about the two answers. Assumes nothing.
use Rattle.claim_view.proofs.Getting.{claim}
use Rattle.claim_view.proofs.set_then_get.Goals as goal

pub returns : goal.returns
returns c =
    claim _ _ _ _ _ _ _ _ _ c.ranges.displacement c.ranges.ex c.ranges.fx _ c.set_view-set.ensures _ _ _ c.get_view-got.ensures
